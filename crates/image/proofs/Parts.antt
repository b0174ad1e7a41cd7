-- A record's parts put together are the record of the words. Assumes nothing.
use mathlib.Core.Path.{◌≡◌, refl}
use mathlib.Core.Bool.{Bool}
use mathlib.Core.List.{List, map}
use Prim.Native.Nat.{ℕ}
use lib.ListN.{get_or, take, drop}
use Rattle.records.specs.declared.Part.{Part}
use Rattle.records.specs.declared.Security.{Security}
use Rattle.records.specs.declared.NumberSet.{NumberSet}
use Rattle.records.specs.declared.RootOfTrust.{RootOfTrust}
use Rattle.records.specs.declared.FieldList.{FieldList}
use Rattle.records.specs.declared.Record.{Record}
use Rattle.image.specs.Image.{is_set, low, part_from, security_from, set_from, root_from_words, list_from, record_of}

module _ (w : List ℕ) where
  pub set-made : {members : List ℕ} → members ≡ map low (take 16 w) → ◌≡◌ {A = NumberSet} (record { members = members; count = get_or w 16 0 }) (set_from w)
  unfolding set_from
  set-made e = rw e refl

  pub root-made : {key hash : Part} {state : ℕ} → key ≡ part_from w 0 → state ≡ low (get_or w 3 0) → hash ≡ part_from w 5
      → ◌≡◌ {A = RootOfTrust} (record { key = key; locked = is_set (get_or w 2 0); state = state; hashed = is_set (get_or w 4 0); hash = hash }) (root_from_words w)
  unfolding root_from_words
  root-made p s q = rw (p, s, q) refl

  pub list_made_lem : {present : List Bool} {values sizes : List ℕ} {purpose digest padding mgf : NumberSet} {root : RootOfTrust}
      → present ≡ map is_set (take 42 w) → values ≡ take 42 (drop 42 w) → sizes ≡ take 42 (drop 84 w)
      → purpose ≡ set_from (drop 126 w) → digest ≡ set_from (drop 143 w) → padding ≡ set_from (drop 160 w) → mgf ≡ set_from (drop 177 w)
      → root ≡ root_from_words (drop 194 w)
      → ◌≡◌ {A = FieldList} (record { present = present; values = values; sizes = sizes; purpose = purpose; digest = digest; padding = padding; mgf = mgf; root = root }) (list_from w)
  unfolding list_from
  list_made_lem a b c d e f g h = rw (a, b, c, d, e, f, g, h) refl

  pub record_made_lem : {attestation keymint : Security} {challenge unique : Part} {software hardware : FieldList}
      → attestation ≡ security_from w 0 → keymint ≡ security_from w 2 → challenge ≡ part_from w 4 → unique ≡ part_from w 6
      → software ≡ list_from (drop 8 w) → hardware ≡ list_from (drop 209 w)
      → ◌≡◌ {A = Record} (record { attestation = attestation; keymint = keymint; challenge = challenge; unique = unique; software = software; hardware = hardware }) (record_of w)
  unfolding record_of
  record_made_lem a b c d e f = rw (a, b, c, d, e, f) refl
