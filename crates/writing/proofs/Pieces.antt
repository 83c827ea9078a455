-- Pieces written one behind the other are one piece. A loop's invariant says that what is left to write gives the whole.
use native.Mathlib.Nat.{add-zero}
use native.Mathlib.Numerals.{add-one}
use Rattle.words.specs.Basics.{◌≡◌, refl, ap, ◌∙◌, List, [], ◌∷◌, ◌++◌, flat_map, ℕ, suc, ◌+◌, ◌*◌, ◌<◌, ◌≤◌, arith, length, drop, get_or, length-append}
use Rattle.words.specs.Basics.{drop_of_length-le, sets, drop-cons, length-sets}
use Rattle.rules.specs.Octets.{over}
use Rattle.octets.proofs.Runs.{sets_over}
use Rattle.writing.specs.declared.Text.{Text}
use Rattle.writing.specs.Writing.{hex_octet, HasRoom, Wrote, Printed}

sets-append : (a b t : List ℕ) (at : ℕ) → sets t at (a ++ b) ≡ sets (sets t at a) (at + length a) b
sets-append [] b t at = rw add-zero
sets-append (x ∷ a) b t at =
    let e : at + suc (length a) ≡ suc at + length a = omega arith in
    rw (e, sets-append a b)

-- the buffer keeps its length
pub wrote_length : {a : List ℕ} {t u : Text} → Wrote a t u → length u.octets.now ≡ length t.octets.now
wrote_length {a} {t} w = ap length w.text ∙ length-sets t.octets.now t.at a

pub wrote_more : {a b : List ℕ} {t u v : Text} → Wrote a t u → Wrote b u v → Wrote (a ++ b) t v
wrote_more {a} {b} {t} w x =
    record {
      buffer = x.buffer ∙ w.buffer;
      fits = rw length-append (omega (arith, wrote_length w));
      place = rw length-append (omega arith);
      text = x.text ∙ rw (w.text, w.place, sets-append a b);
    }

-- a whole text, from the first place on
pub wrote_all : {a l : List ℕ} {t u : Text} → t.octets.now ≡ l → t.at ≡ 0 → Wrote a t u → Printed a l u.at u.octets.now
wrote_all {a} {l} e z w = (omega arith, w.text ∙ rw (e, z) (sets_over a l (omega (arith, ap length e))))

-- .. which lies within the buffer, for whoever hands on its first n octets
pub printed-within : (a t : List ℕ) {u : List ℕ} {n : ℕ} → Printed a t n u → length u ≡ length t → n ≤ length u
unfolding over
printed-within a t p e = omega (arith, p.0, ap length p.1, length-append a (drop (length a) t))

-- whole is being written behind the text t₀: t has a part of it, and left is yet to come
pub record Going (whole : List ℕ) (t₀ : Text) (left : List ℕ) (t : Text) : Type 0 where
  pub buffer : t.octets.ghost_name ≡ t₀.octets.ghost_name
  pub room : HasRoom (length whole) t₀
  pub place : t.at + length left ≡ t₀.at + length whole
  pub text : sets t.octets.now t.at left ≡ sets t₀.octets.now t₀.at whole
  pub same : length t.octets.now ≡ length t₀.octets.now

pub going_start : {whole : List ℕ} {t : Text} → HasRoom (length whole) t → Going whole t whole t
going_start h = record { buffer = refl; room = h; place = refl; text = refl; same = refl }

pub going_room : {whole : List ℕ} {t₀ : Text} {rest : List ℕ} {t : Text} → Going whole t₀ rest t → HasRoom (length rest) t
going_room g = omega (arith, g.room, g.place, g.same)

pub going_more : {whole : List ℕ} {t₀ : Text} {piece left rest : List ℕ} {t u : Text} → Going whole t₀ rest t → rest ≡ piece ++ left → Wrote piece t u
    → Going whole t₀ left u
going_more {whole} {t₀} {piece} {left} g e w =
    record {
      buffer = w.buffer ∙ g.buffer;
      room = g.room;
      place = omega (arith, ap length e, length-append piece left);
      text = rw (w.text, w.place, ← sets-append piece left, ← e) g.text;
      same = wrote_length w ∙ g.same;
    }

pub going_end : {whole : List ℕ} {t₀ : Text} {rest : List ℕ} {t : Text} → Going whole t₀ rest t → rest ≡ [] → Wrote whole t₀ t
going_end g e = record { buffer = g.buffer; fits = g.room; place = rw (e, add-zero) at g.place; text = rw e at g.text }

-- The octets in hex: what the next turn writes, that nothing is left, and how long the whole is

pub next_octet : (s : List ℕ) (j : ℕ) → j < length s → flat_map hex_octet (drop j s) ≡ hex_octet (get_or s j 0) ++ flat_map hex_octet (drop (j + 1) s)
unfolding flat_map
next_octet s j h = rw (add-one, drop-cons s j 0)

pub no_octet : (s : List ℕ) (j : ℕ) → length s ≤ j → flat_map hex_octet (drop j s) ≡ []
unfolding flat_map
no_octet s j h = rw (drop_of_length-le s h)

pub hex_length : (s : List ℕ) → length (flat_map hex_octet s) ≡ 2 * length s
unfolding flat_map
hex_length [] = refl
hex_length (o ∷ s) = let e = hex_length s in omega arith
