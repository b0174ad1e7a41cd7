-- What is kept of a content beside what it says (specs/Kept.antt), by its kind. Assumes nothing.
use mathlib.Core.Path.{◌≡◌, refl, sym, ◌∙◌}
use mathlib.Core.Bool.{Bool, true, false}
use mathlib.Core.List.{[], ◌∷◌}
use Prim.Native.Nat.{ℕ, ◌+◌, ◌≤◌}
use native.Mathlib.Omega.{arith}
use denote.Enum.Declared.{tag_of}
use types.Run.{OneOf}
use lib.ListN.{get_or-replicate}
use Rattle.schema.specs.Rows.{of_kind}
use Rattle.schema.specs.declared.Kind.{Kind}
use Rattle.schema.specs.contracts.Kind as kinds
use Rattle.records.specs.Slots.{SetInSlots}
use Rattle.records.specs.Empty.{empty_set, empty_root}
use Rattle.records.specs.Clear.{SpareClear, HashClear}
use Rattle.records.specs.declared.NumberSet.{NumberSet}
use Rattle.records.specs.declared.RootOfTrust.{RootOfTrust}
use Rattle.std.specs.Prelude.{Result}
use Rattle.answer.specs.declared.Refused.{Refused}
use Rattle.records.specs.declared.Part.{Part}
use Rattle.contents.specs.Leaf.{PartBefore}
use Rattle.contents.specs.Content.{plain_content}
use Rattle.contents.specs.Root.{HashedAs, PartsIn}
use Rattle.contents.specs.Kept.{ContentIn, PlainIn, PlainKept}
use Rattle.contents.specs.declared.content.Plain.{Plain}
use Rattle.contents.proofs.Contents.{not_plain}

pub empty-spare : SpareClear empty_set
empty-spare k p q = get_or-replicate {A = ℕ} 16 k 0 0 q

pub differ : true ≡ false → ⊥
differ e = let z : ◌≡◌ {A = ℕ} 0 1 = cc in omega arith

hash-clear : (h : Bool) (t : RootOfTrust) → HashedAs h t → HashClear t
hash-clear true t e q = absurd (differ (sym e ∙ q))
hash-clear false t e q = e.1

module _ (n : ℕ) where
  plain_in : (value size : Bool) (v z : ℕ) → (value ≡ false → v ≡ 0) → (size ≡ false → z ≡ 0) → (size ≡ true → v + z ≤ n) → ContentIn value size n (plain_content v z)
  plain_in value size v z a b o = record {
    set = (omega arith, refl);
    spare = empty-spare;
    root = (omega arith, omega arith);
    hash = λ e. refl;
    no_value = a;
    no_size = b;
    octet = o;
  }

  pub number_in_lem : (v : ℕ) → ContentIn true false n (plain_content v 0)
  number_in_lem v = plain_in true false v 0 (λ q. absurd (differ q)) (λ q. refl) (λ q. absurd (differ (sym q)))

  pub null_in : ContentIn false false n (plain_content 0 0)
  null_in = plain_in false false 0 0 (λ q. refl) (λ q. refl) (λ q. absurd (differ (sym q)))

  pub octets_in_lem : (p : Part) → PartBefore n p → ContentIn true true n (plain_content p.start p.len)
  octets_in_lem p i = plain_in true true p.start p.len (λ q. absurd (differ q)) (λ q. absurd (differ q)) (λ q. i)

  pub set_in_lem : (g : NumberSet) → SetInSlots g × SpareClear g → ContentIn false false n (record { value = 0; size = 0; set = g; root = empty_root })
  set_in_lem g j =
      record { set = j.0; spare = j.1; root = (omega arith, omega arith); hash = λ q. refl; no_value = λ q. refl; no_size = λ q. refl; octet = λ q. omega arith }

  pub root_in_lem : (h : Bool) (t : RootOfTrust) → PartsIn n t × HashedAs h t → ContentIn false false n (record { value = 0; size = 0; set = empty_set; root = t })
  root_in_lem h t j =
      record { set = (omega arith, refl); spare = empty-spare; root = j.0; hash = hash-clear h t j.1; no_value = λ q. refl; no_size = λ q. refl; octet = λ q. omega arith }

  -- by the kind, which says whether there is a value or a size
  module _ (r : Result Plain Refused) (k : Kind) where
    pub in_number32 : k ≡ Kind.Number32 → PlainIn true false n r → PlainKept (of_kind k) n r
    in_number32 w p y = rw w p

    pub in_number64 : k ≡ Kind.Number64 → PlainIn true false n r → PlainKept (of_kind k) n r
    in_number64 w p y = rw w p

    pub in_null : k ≡ Kind.Null → PlainIn false false n r → PlainKept (of_kind k) n r
    in_null w p y = rw w p

    pub in_octets : k ≡ Kind.Octets → PlainIn true true n r → PlainKept (of_kind k) n r
    in_octets w p y = rw w p

    pub in_none : OneOf (0 ∷ 5 ∷ []) (tag_of kinds.the_type k) → PlainKept (of_kind k) n r
    in_none o y = absurd (differ (sym y ∙ not_plain k o))
