-- How the chunks of a table come to be known.
use Rattle.std.proofs.Common.{◌≡◌, ◌≢◌, ℕ, zero, suc, ◌+◌, ◌≤◌, ◌==◌, Bool, true, false, cond, List, [], ◌∷◌, ◌++◌, reverse, find, Option, Some, None, Result, Ok, Err, refl, sym, ap, subst, ◌∙◌, arith}
use Rattle.std.specs.Prelude.{count_by, is_some, is_none}
use Rattle.std.proofs.lemmas.Bool.Decides.{nat_tests}
use Rattle.std.proofs.lemmas.List.{append-nil, reverse-append, reverse-reverse}
use Rattle.std.proofs.lemmas.List.Sums.{sum_by-cons}
use Rattle.contract_words.specs.Faults.{◌>>=◌}
use Rattle.contract_words.specs.Sequences.{with_front}
use Rattle.contract_words.proofs.SequenceSteps.{with_front_nil}
use Rattle.type_chunks.specs.chunk_walk.Chunk.{ChunkOf}
use Rattle.type_chunks.specs.chunk_walk.Chunks.{children_of}
use Rattle.type_chunks.specs.chunk_walk.declared.chunk.ChunkFault.{ChunkFault}
use Rattle.type_chunks.specs.string_pool.Pool.{PoolOf, pool_of}
use Rattle.type_chunks.specs.string_pool.declared.pool.Pool.{Pool}
use Rattle.type_chunks.specs.type_entries.declared.fault.TableFault.{TableFault}
use Rattle.type_chunks.specs.type_entries.declared.fault.TableFault.TheVariants.{OutOfMemory}
use Rattle.type_chunks.specs.type_entries.declared.fault.TableFault.TheVariants as faults
use Rattle.overlay_map.specs.declared.known_children.KnownChildren.{KnownChildren}
use Rattle.overlay_map.specs.TablePools.{pool_of_chunk}
use Rattle.overlay_map.specs.Package.{PackageOf, package_in}
use Rattle.overlay_map.specs.Layout.{pool_kind, package_kind}
use Rattle.overlay_map.specs.Table.{is_package, is_pool, first_pool, strings_in, packages_of_child, packages_of_children, table_of_children}
use Rattle.overlay_map.specs.KnownChildren.{IsPoolOf, KnowsChildren, IsChildRead, or_empty}

-- ---- the first pool among chunks and one more

abbrev or_found : {A : Type 0} → Option A → Option A → Option A
or_found (Some x) other = Some x
or_found None other = other

find-skip : {A : Type 0} (b : Bool) (y : A) (found longer other : Option A) → longer ≡ or_found found other → cond b (Some y) longer ≡ or_found (cond b (Some y) found) other
find-skip true y found longer other e = refl
find-skip false y found longer other e = e

find-last : {A : Type 0} (p : A → Bool) (xs : List A) (x : A) → find p (xs ++ x ∷ []) ≡ or_found (find p xs) (cond (p x) (Some x) None)
find-last p [] x = refl
find-last p (y ∷ ys) x = find-skip (p y) y _ _ _ (find-last p ys x)

pub first_pool-last : (child : Result ChunkOf ChunkFault) (before : List (Result ChunkOf ChunkFault))
    → first_pool (reverse (child ∷ before)) ≡ or_found (first_pool (reverse before)) (cond (is_pool child) (Some child) None)
first_pool-last child before =
    ap (λ (t : List (Result ChunkOf ChunkFault)). first_pool t) (reverse-append (child ∷ []) before) ∙ find-last is_pool (reverse before) child

or_found-none : {A : Type 0} (found : Option A) → or_found found None ≡ found
or_found-none None = refl
or_found-none (Some x) = refl

-- a chunk that is no pool leaves the first pool as it is
first_pool-other : (chunk : ChunkOf) (before : List (Result ChunkOf ChunkFault)) → chunk.kind ≢ 0x0001 → first_pool (reverse (Ok chunk ∷ before)) ≡ first_pool (reverse before)
first_pool-other chunk before other =
    let no : is_pool (Ok chunk) ≡ false = grind (arith, nat_tests) in
    first_pool-last (Ok chunk) before
    ∙ ap (λ (b : Bool). or_found (first_pool (reverse before)) (cond b (Some (Ok chunk)) None)) no
    ∙ or_found-none (first_pool (reverse before))

-- ---- packages

-- a chunk of another kind than a package is not counted
count-other : (chunk : ChunkOf) (before : List (Result ChunkOf ChunkFault)) → chunk.kind ≢ 0x0200 → count_by is_package (Ok chunk ∷ before) ≡ count_by is_package before
count-other chunk before other = grind (arith, nat_tests)

count-package : (chunk : ChunkOf) (before : List (Result ChunkOf ChunkFault)) → chunk.kind ≡ 0x0200 → count_by is_package (Ok chunk ∷ before) ≡ count_by is_package before + 1
count-package chunk before kind =
    let is : is_package (Ok chunk) ≡ true = rw kind refl in
    let one : cond (is_package (Ok chunk)) 1 0 ≡ suc zero = rw is refl in
    omega (arith, one, sum_by-cons (λ (x : Result ChunkOf ChunkFault). cond (is_package x) 1 0) (Ok chunk) before)

-- ---- what is known of the chunks and one more

pub Knows-package : (known new : KnownChildren) (chunk : ChunkOf) (before : List (Result ChunkOf ChunkFault)) → chunk.kind ≡ 0x0200
    → new.packages ≡ known.packages + 1 → new.strings ≡ known.strings → KnowsChildren known before → KnowsChildren new (Ok chunk ∷ before)
Knows-package known new chunk before kind more same knows = record {
  packages = more ∙ ap (λ (n : ℕ). n + 1) knows.packages ∙ sym (count-package chunk before kind);
  strings = rw (same, first_pool-other chunk before (λ e. omega arith)) knows.strings;
}

-- a pool is kept exactly where there is one
none-kept : (found : Option (Result ChunkOf ChunkFault)) (kept : Option Pool) → IsPoolOf found kept → is_some kept ≡ false → found ≡ None
none-kept None None is none = refl
none-kept None (Some pool) is none = absurd is
none-kept (Some (Ok chunk)) None is none = absurd is
none-kept (Some (Err fault)) None is none = absurd is
none-kept (Some (Ok chunk)) (Some pool) is none = absurd cc
none-kept (Some (Err fault)) (Some pool) is none = absurd is

pub none-found : (found : Option (Result ChunkOf ChunkFault)) (kept : Option Pool) → IsPoolOf found kept → is_none found ≡ is_none kept
none-found None None is = refl
none-found None (Some pool) is = absurd is
none-found (Some (Ok chunk)) None is = absurd is
none-found (Some (Err fault)) None is = absurd is
none-found (Some (Ok chunk)) (Some pool) is = refl
none-found (Some (Err fault)) (Some pool) is = absurd is

still-kept : (found other : Option (Result ChunkOf ChunkFault)) (kept : Option Pool) → IsPoolOf found kept → is_some kept ≡ true → IsPoolOf (or_found found other) kept
still-kept None other None is some = absurd cc
still-kept None other (Some pool) is some = absurd is
still-kept (Some child) other kept is some = is

pub Knows-first-pool : (known new : KnownChildren) (chunk : ChunkOf) (pool : Pool) (before : List (Result ChunkOf ChunkFault)) → chunk.kind ≡ 0x0001
    → is_some known.strings ≡ false → new.packages ≡ known.packages → new.strings ≡ Some pool → Ok (pool_of pool) ≡ pool_of_chunk chunk
    → KnowsChildren known before → KnowsChildren new (Ok chunk ∷ before)
Knows-first-pool known new chunk pool before kind none same first opened knows =
    let yes : is_pool (Ok chunk) ≡ true = rw kind refl in
    let found : first_pool (reverse (Ok chunk ∷ before)) ≡ Some (Ok chunk) =
    first_pool-last (Ok chunk) before
    ∙ ap (λ (t : Option (Result ChunkOf ChunkFault)). or_found t (cond (is_pool (Ok chunk)) (Some (Ok chunk)) None)) (none-kept (first_pool (reverse before)) known.strings knows.strings none)
    ∙ ap (λ (b : Bool). cond b (Some (Ok chunk)) None) yes in
    record {
      packages = same ∙ knows.packages ∙ sym (count-other chunk before (λ e. omega arith));
      strings = rw (first, found) (sym opened);
    }

pub Knows-later-pool : (known : KnownChildren) (chunk : ChunkOf) (before : List (Result ChunkOf ChunkFault)) → chunk.kind ≡ 0x0001
    → is_some known.strings ≡ true → KnowsChildren known before → KnowsChildren known (Ok chunk ∷ before)
Knows-later-pool known chunk before kind later knows = record {
  packages = knows.packages ∙ sym (count-other chunk before (λ e. omega arith));
  strings = rw (first_pool-last (Ok chunk) before) (still-kept (first_pool (reverse before)) _ known.strings knows.strings later);
}

pub Knows-other-child : (known : KnownChildren) (chunk : ChunkOf) (before : List (Result ChunkOf ChunkFault)) → chunk.kind ≢ 0x0001 → chunk.kind ≢ 0x0200
    → KnowsChildren known before → KnowsChildren known (Ok chunk ∷ before)
Knows-other-child known chunk before no_pool no_package knows = record {
  packages = knows.packages ∙ sym (count-other chunk before no_package);
  strings = rw (first_pool-other chunk before no_pool) knows.strings;
}

-- ---- one child more is read

abbrev wrapped : List PackageOf → Result (List PackageOf) TableFault
wrapped list = Ok list

-- a fault
pub child-fails : {X : Type 0} (old new : KnownChildren) (count new_count : ℕ) (list new_list : List PackageOf) (fault : TableFault) (child : Result ChunkOf ChunkFault)
    → ((before : List (Result ChunkOf ChunkFault)) → KnowsChildren old before → fault ≢ OutOfMemory → packages_of_child (before, child) ≡ Err fault)
    → IsChildRead {X = X} old new count new_count list new_list (Err fault) child
child-fails old new count new_count list new_list fault child stops = record {
  one = tt;
  one_package = tt;
  known = λ before knows. tt;
  packages = λ before knows other. ap (with_front list) (stops before knows other);
}

-- a package
package-child : (old : KnownChildren) (chunk : ChunkOf) (before : List (Result ChunkOf ChunkFault)) (read : Result PackageOf TableFault) → chunk.kind ≡ 0x0200 → package_in old.packages chunk ≡ read → KnowsChildren old before
    → packages_of_child (before, Ok chunk) ≡ (read >>= λ one. Ok (one ∷ []))
unfolding packages_of_child
package-child old chunk before read kind opened knows =
    let test : (chunk.kind == package_kind) ≡ true = rw kind refl in
    rw (test, sym knows.packages, opened) refl

pub child-package : {X : Type 0} (old new : KnownChildren) (count new_count : ℕ) (list new_list : List PackageOf) (chunk : ChunkOf) (read : PackageOf) (x : X) → chunk.kind ≡ 0x0200
    → new.packages ≡ old.packages + 1 → new.strings ≡ old.strings → new_count ≤ count + 1 → package_in old.packages chunk ≡ Ok read → new_list ≡ list ++ read ∷ [] → IsChildRead old new count new_count list new_list (Ok x) (Ok chunk)
child-package old new count new_count list new_list chunk read x kind more same one opened pushed = record {
  one = omega (arith, more);
  one_package = one;
  known = λ before knows. Knows-package old new chunk before kind more same knows;
  packages = λ before knows. ap (with_front list) (package-child old chunk before (Ok read) kind opened knows) ∙ ap wrapped (sym pushed);
}

pub package-fails : (old : KnownChildren) (chunk : ChunkOf) (before : List (Result ChunkOf ChunkFault)) (fault : TableFault) → chunk.kind ≡ 0x0200 → package_in old.packages chunk ≡ Err fault → KnowsChildren old before
    → packages_of_child (before, Ok chunk) ≡ Err fault
package-fails old chunk before fault kind opened knows = package-child old chunk before (Err fault) kind opened knows

-- the first pool
pool-child : (old : KnownChildren) (chunk : ChunkOf) (before : List (Result ChunkOf ChunkFault)) → chunk.kind ≡ 0x0001 → is_some old.strings ≡ false → KnowsChildren old before
    → packages_of_child (before, Ok chunk) ≡ (pool_of_chunk chunk >>= λ pool. Ok [])
unfolding packages_of_child
pool-child old chunk before kind none knows =
    let no : (chunk.kind == package_kind) ≡ false = rw kind refl in
    let yes : (chunk.kind == pool_kind) ≡ true = rw kind refl in
    rw (no, yes, none-kept (first_pool (reverse before)) old.strings knows.strings none) refl

pub child-pool : {X : Type 0} (old new : KnownChildren) (count : ℕ) (list : List PackageOf) (chunk : ChunkOf) (pool : Pool) (x : X) → chunk.kind ≡ 0x0001 → is_some old.strings ≡ false
    → new.packages ≡ old.packages → new.strings ≡ Some pool → Ok (pool_of pool) ≡ pool_of_chunk chunk → IsChildRead old new count count list list (Ok x) (Ok chunk)
child-pool old new count list chunk pool x kind none same first opened = record {
  one = omega (arith, same);
  one_package = omega arith;
  known = λ before knows. Knows-first-pool old new chunk pool before kind none same first opened knows;
  packages = λ before knows.
      ap (with_front list) (pool-child old chunk before kind none knows ∙ ap (λ (r : Result PoolOf TableFault). r >>= λ pool. Ok []) (sym opened))
      ∙ ap wrapped (append-nil list);
}

pub pool-fails : (old : KnownChildren) (chunk : ChunkOf) (before : List (Result ChunkOf ChunkFault)) (fault : TableFault) → chunk.kind ≡ 0x0001 → is_some old.strings ≡ false → Err fault ≡ pool_of_chunk chunk → KnowsChildren old before
    → packages_of_child (before, Ok chunk) ≡ Err fault
pool-fails old chunk before fault kind none opened knows =
    pool-child old chunk before kind none knows ∙ ap (λ (r : Result PoolOf TableFault). r >>= λ pool. Ok []) (sym opened)

-- another pool
kept-none : (kept : Option Pool) → is_some kept ≡ true → is_none kept ≡ false
kept-none (Some pool) some = refl
kept-none None some = absurd cc

later-child : (old : KnownChildren) (chunk : ChunkOf) (before : List (Result ChunkOf ChunkFault)) → chunk.kind ≡ 0x0001 → is_some old.strings ≡ true → KnowsChildren old before → packages_of_child (before, Ok chunk) ≡ Ok []
unfolding packages_of_child
later-child old chunk before kind later knows =
    let no : (chunk.kind == package_kind) ≡ false = rw kind refl in
    let yes : (chunk.kind == pool_kind) ≡ true = rw kind refl in
    let found : is_none (first_pool (reverse before)) ≡ false = none-found (first_pool (reverse before)) old.strings knows.strings ∙ kept-none old.strings later in
    rw (no, yes, found) refl

pub child-later : {X : Type 0} (old : KnownChildren) (count : ℕ) (list : List PackageOf) (chunk : ChunkOf) (x : X) → chunk.kind ≡ 0x0001 → is_some old.strings ≡ true → IsChildRead old old count count list list (Ok x) (Ok chunk)
child-later old count list chunk x kind later = record {
  one = omega arith;
  one_package = omega arith;
  known = λ before knows. Knows-later-pool old chunk before kind later knows;
  packages = λ before knows. ap (with_front list) (later-child old chunk before kind later knows) ∙ ap wrapped (append-nil list);
}

-- a chunk of another kind
other-child : (chunk : ChunkOf) (before : List (Result ChunkOf ChunkFault)) → chunk.kind ≢ 0x0001 → chunk.kind ≢ 0x0200 → packages_of_child (before, Ok chunk) ≡ Ok []
unfolding packages_of_child
other-child chunk before no_pool no_package =
    let no : (chunk.kind == package_kind) ≡ false = grind (arith, nat_tests) in
    let neither : (chunk.kind == pool_kind) ≡ false = grind (arith, nat_tests) in
    rw (no, neither) refl

pub child-other : {X : Type 0} (old : KnownChildren) (count : ℕ) (list : List PackageOf) (chunk : ChunkOf) (x : X) → chunk.kind ≢ 0x0001 → chunk.kind ≢ 0x0200 → IsChildRead old old count count list list (Ok x) (Ok chunk)
child-other old count list chunk x no_pool no_package = record {
  one = omega arith;
  one_package = omega arith;
  known = λ before knows. Knows-other-child old chunk before no_pool no_package knows;
  packages = λ before knows. ap (with_front list) (other-child chunk before no_pool no_package) ∙ ap wrapped (append-nil list);
}

-- a chunk that can't be read
pub child-without_chunk : (fault : ChunkFault) (before : List (Result ChunkOf ChunkFault)) → packages_of_child (before, Err fault) ≡ Err (faults.Chunk fault)
unfolding packages_of_child
child-without_chunk fault before = refl

-- ---- at the end of the chunks

kept-strings : (found : Option (Result ChunkOf ChunkFault)) (kept : Option Pool) → IsPoolOf found kept → strings_in found ≡ Ok (or_empty kept)
kept-strings None None is = refl
kept-strings None (Some pool) is = absurd is
kept-strings (Some (Ok chunk)) None is = absurd is
kept-strings (Some (Err fault)) None is = absurd is
kept-strings (Some (Ok chunk)) (Some pool) is = is
kept-strings (Some (Err fault)) (Some pool) is = absurd is

pub table-whole : (table : ChunkOf) (packages : List PackageOf) (known : KnownChildren) → with_front [] (packages_of_children table) ≡ Ok packages
    → KnowsChildren known (reverse (children_of table)) → table_of_children table ≡ Ok (record { packages = packages; strings = or_empty known.strings })
unfolding table_of_children
table-whole table packages known read knows =
    let first : IsPoolOf (first_pool (children_of table)) known.strings =
    subst (λ (t : List (Result ChunkOf ChunkFault)). IsPoolOf (first_pool t) known.strings) (reverse-reverse (children_of table)) knows.strings in
    rw (sym (with_front_nil (packages_of_children table)) ∙ read, kept-strings (first_pool (children_of table)) known.strings first) refl

pub table-stops : (table : ChunkOf) (fault : TableFault) → with_front [] (packages_of_children table) ≡ Err fault → table_of_children table ≡ Err fault
unfolding table_of_children
table-stops table fault read = rw (sym (with_front_nil (packages_of_children table)) ∙ read) refl
