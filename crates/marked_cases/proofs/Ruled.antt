-- A ruling case holds as soon as the one record that its bytes are read as is ruled so. Assumes nothing.
use mathlib.Core.Path.{◌≡◌, refl, ap, ◌∙◌}
use mathlib.Core.List.{List}
use Prim.Native.Nat.{ℕ}
use Rattle.answer.specs.Answer.{Answer, got}
use Rattle.records.specs.declared.Record.{Record}
use Rattle.reader.specs.Reading.{Reads}
use Rattle.reader.proofs.Answered.{same_answer}
use Rattle.ruling.specs.declared.request.Request.{Request}
use Rattle.ruling.specs.Ruling.{Permit, ruling}
use Rattle.marked_cases.specs.Cases.{Use, Asks, Ruled}

-- the request for a use that holds all else as q does
abbrev pub asking : Use → Request → Request
asking u q = record {
  purpose = u.purpose;
  digest = u.digest;
  padding = u.padding;
  clock = u.clock;
  floor = u.floor;
  uptime = q.uptime;
  handle = q.handle;
  token = q.token;
  locked = q.locked;
  present = q.present;
  confirmed = q.confirmed;
  early_boot_over = q.early_boot_over;
  uses = q.uses;
}

asks_asking : (u : Use) (q : Request) → Asks u q → q ≡ asking u q
asks_asking u q a = rw (← a.purpose, ← a.digest, ← a.padding, ← a.clock, ← a.floor) refl

module _ (bs : List ℕ) (n : ℕ) (r : Record) (w : Reads bs (got n) r) where
  pub ruled_by : (u : Use) (a : Answer Permit) → ((q : Request) → ruling r (asking u q) ≡ a) → Ruled bs u a
  ruled_by u a e = record {
    accepted = (n, r, w);
    answers = λ o r' q v g. ap (λ (x : Record). ruling x q) (same_answer bs (got n) o r r' w v).1 ∙ (ap (ruling r) (asks_asking u q g) ∙ e q);
  }
