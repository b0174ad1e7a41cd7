-- `list_record` meets its contract: an output with the room for any record has it for this one, so all of its text stands
-- there; a shorter one is not touched. Assumes nothing.
use mathlib.Core.Path.{◌≡◌, refl}
use borrow.Author.Rules.{rules}
use Rattle.listing.specs.Lines.{record_left}
use native.Mathlib.Omega.{arith}
use lib.ListN.{length}
use Rattle.records.specs.Content.{content_of}
use Rattle.listing.proofs.Writes.{short, wrote}
use Rattle.listing.specs.Text.{content_text}
use Rattle.listing.specs.Room.{needed}
use Rattle.listing.proofs.list_record.Goals as goal

pub returns-then-room-lt-RECORD_ROOM-clause-answer : goal.returns-then-room-lt-RECORD_ROOM-clause-answer
returns-then-room-lt-RECORD_ROOM-clause-answer c =
    let a = c.args in
    (short (content_text (content_of a.r a.s.now) a.count) (needed (length a.s.now)) a.out.now (omega arith)).0

pub returns-then-room-lt-RECORD_ROOM-clause-output : goal.returns-then-room-lt-RECORD_ROOM-clause-output
returns-then-room-lt-RECORD_ROOM-clause-output c =
    let a = c.args in
    (short (content_text (content_of a.r a.s.now) a.count) (needed (length a.s.now)) a.out.now (omega arith)).1

pub returns-then-room-s-clause-answer : goal.returns-then-room-s-clause-answer
returns-then-room-s-clause-answer c =
    let a = c.args in
    (short (content_text (content_of a.r a.s.now) a.count) (needed (length a.s.now)) a.out.now (omega arith)).0

pub returns-then-room-s-clause-output : goal.returns-then-room-s-clause-output
returns-then-room-s-clause-output c =
    let a = c.args in
    (short (content_text (content_of a.r a.s.now) a.count) (needed (length a.s.now)) a.out.now (omega arith)).1

pub returns-clause-answer : goal.returns-clause-answer
returns-clause-answer c =
    let a = c.args in
    (wrote (content_text (content_of a.r a.s.now) a.count) (needed (length a.s.now)) c.whole_record.ensures refl (omega (arith, c.if-room-s.false, c.if-room-lt-RECORD_ROOM.false))).0

pub returns-clause-output : goal.returns-clause-output
returns-clause-output c =
    let a = c.args in
    let e : c.whole_record.new.self.out.now ≡ record_left a.r a.count a.s.now a.out.now =
    (wrote (content_text (content_of a.r a.s.now) a.count) (needed (length a.s.now)) c.whole_record.ensures refl (omega (arith, c.if-room-s.false, c.if-room-lt-RECORD_ROOM.false))).1 in
    search rules
