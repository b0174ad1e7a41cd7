-- `list_refusal` meets its contract: 64 octets hold the line of any refusal. Assumes nothing.
use mathlib.Core.Path.{◌≡◌, refl}
use borrow.Author.Rules.{rules}
use Rattle.listing.specs.Lines.{refusal_left}
use Rattle.listing.proofs.Writes.{short, wrote, refusal_put}
use Rattle.listing.specs.Text.{refusal_text}
use Rattle.listing.specs.Room.{refusal_needed}
use Rattle.listing.proofs.list_refusal.Goals as goal

pub returns-then-out-lt-REFUSAL_ROOM-clause-answer : goal.returns-then-out-lt-REFUSAL_ROOM-clause-answer
returns-then-out-lt-REFUSAL_ROOM-clause-answer c =
    let a = c.args in
    (short (refusal_text a.number a.place) refusal_needed a.out.now c.if-out-lt-REFUSAL_ROOM.true).0

pub returns-then-out-lt-REFUSAL_ROOM-clause-output : goal.returns-then-out-lt-REFUSAL_ROOM-clause-output
returns-then-out-lt-REFUSAL_ROOM-clause-output c =
    let a = c.args in
    (short (refusal_text a.number a.place) refusal_needed a.out.now c.if-out-lt-REFUSAL_ROOM.true).1

pub returns-clause-answer : goal.returns-clause-answer
returns-clause-answer c =
    let a = c.args in
    (wrote (refusal_text a.number a.place) refusal_needed (refusal_put a.number a.place (rw c.from.ensures at c.numbers.ensures)) refl c.if-out-lt-REFUSAL_ROOM.false).0

pub returns-clause-output : goal.returns-clause-output
returns-clause-output c =
    let a = c.args in
    let e : c.numbers.new.self.out.now ≡ refusal_left a.number a.place a.out.now = (wrote (refusal_text a.number a.place) refusal_needed (refusal_put a.number a.place (rw c.from.ensures at c.numbers.ensures)) refl c.if-out-lt-REFUSAL_ROOM.false).1 in
    search rules
