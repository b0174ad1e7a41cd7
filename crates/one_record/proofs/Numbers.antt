-- Each refusal has a number of its own, and each number that a read refuses with is a refusal's: the number leads back to it.
-- Assumes nothing.
use mathlib.Core.Path.{◌≡◌, refl, sym, ap, ◌∙◌}
use mathlib.Core.Bool.{Bool}
use mathlib.Core.Option.{Option, none, some}
use mathlib.Core.List.{List, [], ◌∷◌}
use Prim.Native.Nat.{ℕ, zero, suc, ◌≤◌}
use native.Mathlib.Omega.{arith}
use lib.ListN.{get_or}
use lib.Dec.{eqb, eqb→eq}
use Rattle.answer.specs.Answer.{pick}
use Rattle.answer.specs.Refusal.{number_of}
use Rattle.answer.specs.declared.Refusal.{Refusal}
use Rattle.records.specs.Rows.{all_below}
use Rattle.records.proofs.Rowwise.{all_at}

-- every refusal, those of a read first and by their numbers
refusals : List Refusal
refusals =
    Refusal.TooLong
    ∷ Refusal.RunsOut
    ∷ Refusal.BadIdentifier
    ∷ Refusal.BadLength
    ∷ Refusal.TooDeep
    ∷ Refusal.TooManyElements
    ∷ Refusal.SpareBytes
    ∷ Refusal.UnknownVersion
    ∷ Refusal.WrongElement
    ∷ Refusal.BadContent
    ∷ Refusal.NotInVersion
    ∷ Refusal.FieldOrder
    ∷ Refusal.MemberOrder
    ∷ Refusal.TooManyMembers
    ∷ Refusal.IllShaped
    ∷ Refusal.OutputShort
    ∷ Refusal.EncodingTooLong
    ∷ Refusal.PurposeUnknown
    ∷ Refusal.PurposeNotAllowed
    ∷ Refusal.AlgorithmUnfit
    ∷ Refusal.PaddingNotAllowed
    ∷ Refusal.DigestNotAllowed
    ∷ Refusal.KeyTooSmall
    ∷ Refusal.ClockBelowFloor
    ∷ Refusal.NotYetActive
    ∷ Refusal.Expired
    ∷ Refusal.NoAuthRule
    ∷ Refusal.TokenUnfit
    ∷ Refusal.TokenNotFresh
    ∷ Refusal.DeviceLocked
    ∷ Refusal.UserNotPresent
    ∷ Refusal.NotConfirmed
    ∷ Refusal.EarlyBootOver
    ∷ Refusal.UsedUp
    ∷ Refusal.ChallengeDiffers
    ∷ Refusal.SoftwareLevel
    ∷ Refusal.NoRootOfTrust
    ∷ Refusal.BootUnlocked
    ∷ Refusal.BootNotVerified
    ∷ Refusal.OriginNotGenerated
    ∷ Refusal.ShortImage
    ∷ []

-- the first of some refusals that has the number k
first_of_number : ℕ → List Refusal → Option Refusal
first_of_number k [] = none
first_of_number k (r ∷ rs) = pick (eqb k (number_of r)) (some r) (first_of_number k rs)

found : (r : Refusal) → first_of_number (number_of r) refusals ≡ some r
unfolding refusals first_of_number pick
found Refusal.TooLong = refl
found Refusal.RunsOut = refl
found Refusal.BadIdentifier = refl
found Refusal.BadLength = refl
found Refusal.TooDeep = refl
found Refusal.TooManyElements = refl
found Refusal.SpareBytes = refl
found Refusal.UnknownVersion = refl
found Refusal.WrongElement = refl
found Refusal.BadContent = refl
found Refusal.NotInVersion = refl
found Refusal.FieldOrder = refl
found Refusal.MemberOrder = refl
found Refusal.TooManyMembers = refl
found Refusal.IllShaped = refl
found Refusal.OutputShort = refl
found Refusal.EncodingTooLong = refl
found Refusal.PurposeUnknown = refl
found Refusal.PurposeNotAllowed = refl
found Refusal.AlgorithmUnfit = refl
found Refusal.PaddingNotAllowed = refl
found Refusal.DigestNotAllowed = refl
found Refusal.KeyTooSmall = refl
found Refusal.ClockBelowFloor = refl
found Refusal.NotYetActive = refl
found Refusal.Expired = refl
found Refusal.NoAuthRule = refl
found Refusal.TokenUnfit = refl
found Refusal.TokenNotFresh = refl
found Refusal.DeviceLocked = refl
found Refusal.UserNotPresent = refl
found Refusal.NotConfirmed = refl
found Refusal.EarlyBootOver = refl
found Refusal.UsedUp = refl
found Refusal.ChallengeDiffers = refl
found Refusal.SoftwareLevel = refl
found Refusal.NoRootOfTrust = refl
found Refusal.BootUnlocked = refl
found Refusal.BootNotVerified = refl
found Refusal.OriginNotGenerated = refl
found Refusal.ShortImage = refl

-- no two refusals have one number
pub same_number : (a b : Refusal) → number_of a ≡ number_of b → a ≡ b
same_number a b e =
    let q : some a ≡ some b = sym (found a) ∙ ap (λ (k : ℕ). first_of_number k refusals) e ∙ found b in
    cc

-- the refusal at k in the list; that its number is k + 1
refusal_at : ℕ → Refusal
refusal_at k = get_or refusals k Refusal.ShortImage

numbered_at : ℕ → Bool
numbered_at k = eqb (number_of (refusal_at k)) (suc k)

-- the numbers that a read refuses with, 1 to 14, are numbers of refusals
pub some_refusal : (k : ℕ) → 1 ≤ k → k ≤ 14 → (a : Refusal) × (number_of a ≡ k)
unfolding refusals refusal_at numbered_at all_below
some_refusal zero l h = absurd (omega arith)
some_refusal (suc k) l h = (refusal_at k, eqb→eq (number_of (refusal_at k)) (suc k) (rw (all_at numbered_at 14 k (omega arith) refl) tt))
