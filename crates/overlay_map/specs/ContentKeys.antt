-- Keys for the hashes of a map, made of the ids that are put in it.
use Rattle.std.specs.Prelude.{ℕ, List}
use Rattle.std.specs.Int.{w32, to_le_bytes}
use Rattle.std.specs.List.{flat_map}
use Rattle.std.specs.Hash.DefaultHasher as sip
use Rattle.sha2.specs.Sha256.{sha256}
use Rattle.sha2.specs.Hashers.{Holds256}
use Rattle.overlay_map.specs.declared.content_keys.ContentKeys.{ContentKeys}
use Rattle.overlay_map.specs.declared.contents.Contents.{Contents}

-- each id as four bytes, the lowest first
abbrev pub bytes_of : List ℕ → List ℕ
bytes_of ids = flat_map (λ id. to_le_bytes w32 id) ids

-- these ids were taken, in this order
abbrev pub HoldsIds : Contents → List ℕ → Type 0
HoldsIds contents ids = Holds256 contents.digest (bytes_of ids)

-- the keys of a digest: SipHash with no key, to which the digest was written
abbrev pub of_digest : List ℕ → ContentKeys
of_digest digest = record { keyed = sip.write sip.initial digest }

-- the keys of some ids: those of the SHA-256 digest of their bytes
unfoldable pub keys_of : List ℕ → ContentKeys
keys_of ids = of_digest (sha256 (bytes_of ids))
