-- How many bytes the parts of a pool have (AOSP: ResStringPool_header, ResStringPool_span).
use Rattle.std.specs.Prelude.{ℕ}

abbrev pub least_pool_header : ℕ
least_pool_header = 28

-- where a string or a style stands
abbrev pub offset_size : ℕ
offset_size = 4

abbrev pub span_size : ℕ
span_size = 12

abbrev pub span_name_size : ℕ
span_name_size = 4

-- the name that ends a style, by itself (AOSP: ResStringPool_span::END)
abbrev pub end_of_spans : ℕ
end_of_spans = 0xffff_ffff
