-- What a field's content, as the code answers it, says in the definitions' terms.
use Rattle.std.specs.Prelude.{◌≡◌, Bool, true, false, List, ℕ, Result, Err}
use Rattle.answer.specs.Answer.{Answer, answer_of}
use Rattle.answer.specs.declared.Refusal.{Refusal}
use Rattle.answer.specs.declared.Refused.{Refused}
use Rattle.schema.specs.Table.{Kind, set, number32, number64, null, octets, root}
use Rattle.schema.specs.Content.{ValueWith, num, nul, oct, nums, trust, Place, place_at}
use Rattle.schema.specs.Decode.{read_value, as_place}
use Rattle.records.specs.Content.{members_of, root_of}
use Rattle.records.specs.declared.NumberSet.{NumberSet}
use Rattle.records.specs.declared.RootOfTrust.{RootOfTrust}
use Rattle.records.specs.Empty.{empty_set, empty_root}
use Rattle.contents.specs.declared.content.Plain.{Plain}

-- a field's content, whatever its kind, as a list keeps it: a number; or a part of the bytes, its start in value; or a set; or
-- 704's
pub record Stored : Type 0 where
  pub value : ℕ
  pub size : ℕ
  pub set : NumberSet
  pub root : RootOfTrust

-- a content that is a number or a start v, and a length z
abbrev pub plain_content : ℕ → ℕ → Stored
plain_content v z = record { value = v; size = z; set = empty_set; root = empty_root }

-- the value that it is, by the field's kind
unfoldable pub content_value : Kind → Stored → ValueWith Place
content_value number32 c = num c.value
content_value number64 c = num c.value
content_value null c = nul
content_value octets c = oct (place_at c.value c.size)
content_value set c = nums (members_of c.set)
content_value root c = trust (root_of place_at c.root)

-- ---- a plain content

-- what it says, by its number or start and its length
abbrev pub of_plain : {A : Type 0} → (ℕ → ℕ → A) → Result Plain Refused → Answer A
of_plain f = answer_of (λ p. f p.value p.size)

-- all kinds but a set and 704, which are read and stored in ways of their own
unfoldable pub is_plain : Kind → Bool
is_plain number32 = true
is_plain number64 = true
is_plain null = true
is_plain octets = true
is_plain set = false
is_plain root = false

-- it is what is read there, in every version; a set and 704 are no plain content, and refused as wrong elements
pub record PlainRead (kind : Kind) (at : ℕ) (s : List ℕ) (r : Result Plain Refused) : Type 0 where
  pub is : is_plain kind ≡ true → (v p : ℕ) → of_plain (λ n z. content_value kind (plain_content n z)) r ≡ read_value as_place v kind p at s
  pub none : is_plain kind ≡ false → r ≡ Err (record { 0 = Refusal.WrongElement; 1 = at })
