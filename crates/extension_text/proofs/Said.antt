-- What is listed of the reader's answer is what is listed of the definition's; and how much room is always enough.
-- Assumes nothing.
use mathlib.Core.Path.{◌≡◌, refl, sym, subst, ◌∙◌}
use mathlib.Core.List.{List}
use Prim.Native.Nat.{ℕ, ◌<◌, ◌≤◌}
use native.Mathlib.Omega.{arith}
use borrow.Author.Tests.{le-leb, lt-leb}
use lib.ListN.{length, get_or}
use mir.Syntax.{w8}
use mir.Val.{Fits}
use Rattle.answer.specs.Answer.{Answer, got, refused, guard, bind, map_answer}
use Rattle.answer.proofs.Logic.{by_le}
use Rattle.codec.specs.Octets.{left}
use Rattle.codec.specs.Tree.{first_pass}
use Rattle.schema.specs.Decode.{read_with, read}
use Rattle.schema.specs.Content.{Content}
use Rattle.listing.specs.Room.{needed, refusal_needed, listed}
use Rattle.listing.specs.Text.{listing, content_text, refusal_text}
use Rattle.records.specs.declared.Record.{Record}
use Rattle.reader.specs.Reading.{Reads}
use Rattle.contents.proofs.Spelled.{octets_all}
use Rattle.schema.proofs.Places.{octets_at_places}
use Rattle.records.proofs.PlacesRead.{places_read}
use Rattle.records.specs.Content.{content_of}
use Rattle.extension_text.specs.Bytes.{room, listed_as, left_as, ListedWhole}
use Rattle.codec.specs.Limits.{extension_bytes}

-- the record read, as what it says in the bytes
abbrev pub said_in : List ℕ → Answer ℕ → Record → Answer (Content × ℕ)
said_in s (got n) r = got (content_of r s, n)
said_in s (refused k p) r = refused k p

pub said-is : (s : List ℕ) → ((k : ℕ) → Fits w8 (get_or s k 0)) → (o : Answer ℕ) (r : Record) → Reads s o r → said_in s o r ≡ read s
unfolding map_answer
said-is s f (got n) r g = sym (places_read r s n (octets_all s f) (sym g.is))
said-is s f (refused k p) r g = sym (octets_at_places s (octets_all s f) ∙ rw (← g.is) refl)

module _ (s out : List ℕ) (o : Answer ℕ) (g : Record) {a : Answer (Content × ℕ)} (is : said_in s o g ≡ a) where
  -- the room asked is that of the length of s, and the text that of the answer
  said : {e : Answer ℕ} {b : Answer (Content × ℕ)} → b ≡ a → e ≡ listed_as b (length s) out → e ≡ listed_as a (length s) out
  said {e} p = subst (λ (x : Answer (Content × ℕ)). e ≡ listed_as x (length s) out) p

  kept : {new : List ℕ} {b : Answer (Content × ℕ)} → b ≡ a → new ≡ left_as b (length s) out → new ≡ left_as a (length s) out
  kept {new} p = subst (λ (x : Answer (Content × ℕ)). new ≡ left_as x (length s) out) p

  told : {u : Answer ℕ} → o ≡ u → said_in s u g ≡ a
  told w = subst (λ (x : Answer ℕ). said_in s x g ≡ a) w is

  pub accepted-lists : {k : ℕ} {e : Answer ℕ} → o ≡ got k → e ≡ listed (needed (length s)) out (content_text (content_of g s) k) → e ≡ listed_as a (length s) out
  accepted-lists w h = said (told w) (unfold listing in h)

  pub accepted-leaves : {k : ℕ} {new : List ℕ} → o ≡ got k → new ≡ left (listed (needed (length s)) out (content_text (content_of g s) k)) out 0 (content_text (content_of g s) k) → new ≡ left_as a (length s) out
  accepted-leaves w h = kept (told w) (unfold listing in h)

  pub refused-lists : {k p : ℕ} {e : Answer ℕ} → o ≡ refused k p → e ≡ listed refusal_needed out (refusal_text k p) → e ≡ listed_as a (length s) out
  refused-lists w h = said (told w) (unfold listing in h)

  pub refused-leaves : {k p : ℕ} {new : List ℕ} → o ≡ refused k p → new ≡ left (listed refusal_needed out (refusal_text k p)) out 0 (refusal_text k p) → new ≡ left_as a (length s) out
  refused-leaves w h = kept (told w) (unfold listing in h)

-- ---- how much room is enough

-- over the limit of bytes nothing is read
long-refused : (s : List ℕ) → extension_bytes < length s → read s ≡ refused 1 0
unfolding read_with first_pass guard bind
long-refused s h = rw (lt-leb (length s) extension_bytes h) refl

-- so no answer asks for more than 8,192 bytes do
room_most : (s : List ℕ) → room (read s) (length s) ≤ 491520
room_most s =
    by_le (length s) extension_bytes
    (λ h. go (read s) h)
    (λ h. rw (long-refused s h) (omega arith))
  where
    go : (a : Answer (Content × ℕ)) → length s ≤ extension_bytes → room a (length s) ≤ 491520
    go (got c) h = omega arith
    go (refused number place) h = omega arith

pub listed-whole : ListedWhole
unfolding listed guard
listed-whole s out h = rw (le-leb (room (read s) (length s)) (length out) (omega (arith, room_most s))) refl
