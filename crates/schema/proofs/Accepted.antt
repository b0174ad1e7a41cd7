-- What is accepted is exactly the encodings, within the limit of bytes, of well-shaped contents; and content and bytes
-- determine each other. From the codec's laws, and that an encoding passes the first pass with its count. Assumes nothing.
use mathlib.Core.Logic.{◌↔◌}
use mathlib.Core.Path.{◌≡◌, sym, ap, ◌∙◌}
use mathlib.Core.List.{List}
use Prim.Native.Nat.{ℕ, ◌≤◌}
use lib.ListN.{length}
use lib.Dec.{T}
use Rattle.answer.specs.Answer.{got}
use Rattle.answer.proofs.Answer.{got_inj, bind_case}
use Rattle.codec.specs.Octets.{Octets}
use Rattle.codec.proofs.Tree.{first_pass_sound}
use Rattle.schema.specs.Content.{Content, encode, well_shaped}
use Rattle.schema.specs.Decode.{decode_with, read_with, read, as_octets}
use Rattle.schema.specs.Parts.{ContentOctets}
use Rattle.schema.specs.Count.{count_of}
use Rattle.schema.specs.Statements.{ReadEncode, ReadSound, EncodeInjective, ReadInjective}
use Rattle.schema.proofs.Codecs.{decode_back, decode_sound}
use Rattle.schema.proofs.Shape.{good_shaped, good_octets, shaped_good}
use Rattle.schema.proofs.Count.{good_read}
use Rattle.codec.specs.Limits.{extension_bytes, extension_depth, extension_elements}

-- A well-shaped content of octets whose encoding is within the limit is read back from it, with its count of elements.
pub read-encode : ReadEncode
read-encode c t o h = good_read c (shaped_good c t o h) h

-- What is read is well-shaped, its encoding is just the bytes, and the count is that encoding's.
pub read-sound : ReadSound
unfolding read_with
read-sound bs c k o e =
    bind_case _ _ e λ t et e₁.
    bind_case _ _ e₁ λ d ed e₂.
    let q : d ≡ c = ap (λ (x : Content × ℕ). x.0) (got_inj e₂) in
    let s = decode_sound bs c o (ed ∙ ap got q) in
    let h : length bs ≤ extension_bytes = (first_pass_sound extension_bytes extension_depth extension_elements bs t o et).short in
    let b = good_read c s.0 (rw s.1 h) in
    (good_shaped c s.0, good_octets c s.0, s.1, h, ap (λ (x : Content × ℕ). x.1) (got_inj (sym e ∙ rw s.1 at b)))

-- Bytes are accepted exactly when they are the encoding, within the limit, of a well-shaped content of octets.
pub accepted-exactly : (bs : List ℕ) → Octets bs
    → ((w : Content × ℕ) × (read bs ≡ got w)) ↔ ((c : Content) × T (well_shaped c) × ContentOctets c × (encode c ≡ bs) × (length bs ≤ extension_bytes))
accepted-exactly bs o = (
  λ x. let s = read-sound bs x.0.0 x.0.1 o x.1 in (x.0.0, s.0, s.1, s.2, s.3),
  λ y. ((y.0, count_of y.0), rw (← y.3) (read-encode y.0 y.1 y.2 (rw y.3 y.4))),
)

-- Well-shaped contents of octets whose encodings are within the limit are equal exactly when those encodings are.
pub encode_injective : EncodeInjective
encode_injective c d t u o p h l = (λ e. ap encode e, λ e. got_inj (sym (decode_back c (shaped_good c t o h)) ∙ ap (decode_with as_octets) e ∙ decode_back d (shaped_good d u p l)))

-- The contents of two accepted byte strings are equal exactly when the bytes are.
pub read_injective : ReadInjective
read_injective xs ys c d k m o p e f = (
  λ q. sym (read-sound xs c k o e).2 ∙ ap encode q ∙ (read-sound ys d m p f).2,
  λ q. ap (λ (x : Content × ℕ). x.0) (got_inj (sym e ∙ ap read q ∙ f)),
)
