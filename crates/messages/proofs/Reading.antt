-- Laws of reading: what a caller knows from the fields that were read, or from the refusal.
use Rattle.std.specs.Prelude.{Ok, Err}
use Rattle.words.specs.Basics.{◌≡◌, refl, sym, ap, ◌∙◌, Bool, true, false, ◌&&◌, List, ℕ, ◌-◌, ◌≤◌, eqb, leb, length, leb-true}
use Rattle.words.specs.Names.{no_fields, header_length, command_type, last_type}
use Rattle.rules.specs.Types.{Fields, Outcome, Refusal, Done, WrongLength, WrongDataLength, WrongType}
use Rattle.rules.specs.Lists.{ask, ◌&◌}
use Rattle.rules.specs.Message.{fields, length_fits, data_length_fits, type_fits, reads, Reading, reading_of, read_as, reading}
use Rattle.rules.proofs.Lists.{split}

-- what follows an outcome of reading: the rest, or the refusal
abbrev pub then : {A : Type 0} → Outcome → (Refusal → A) → A → A
then (Ok x) refuse rest = rest
then (Err why) refuse rest = refuse why

-- the checks at the head of any chain are what reading says
reads_is : {A : Type 0} (m : List ℕ) (refuse : Refusal → A) (rest : A) → reads m refuse rest ≡ then (reading m).outcome refuse rest
unfolding ask reads reading
reads_is {A} m refuse rest = step (length_fits m) (data_length_fits m) (type_fits m)
  where
    of : {B : Type 0} → (Refusal → B) → B → Bool → Bool → Bool → B
    of refuse rest a b c = ask a (refuse WrongLength) (ask b (refuse WrongDataLength) (ask c (refuse WrongType) rest))

    step : (a b c : Bool) → of refuse rest a b c ≡ then (of (λ why. reading_of (Err why) no_fields) (reading_of (Ok (Done 0)) (fields m)) a b c).outcome refuse rest
    step true true true = refl
    step true true false = refl
    step true false c = refl
    step false b c = refl

-- a chain that refuses with `false` and holds has passed its first check
passed : (b rest : Bool) → ask b false rest ≡ true → b ≡ true
unfolding ask
passed true rest e = refl
passed false rest e = e

-- both of two tests, as a function answers it
pub and_is : (a b : Bool) → (a & b) ≡ (a && b)
unfolding ◌&◌
and_is a b = refl

-- the length of a message that passes the first check
pub long_enough : (m : List ℕ) → length_fits m ≡ true → header_length ≤ length m
unfolding length_fits
long_enough m h = leb-true header_length (length m) (split h).0

-- the checks 11 and 12, of the fields that were taken from the message
module _ (m : List ℕ) {f : Fields} (e : f ≡ fields m) where
  pub said-length : data_length_fits m ≡ eqb f.data_length (length m - header_length)
  unfolding fields data_length_fits
  said-length = rw e

  pub said-type : type_fits m ≡ (leb command_type f.message_type & leb f.message_type last_type)
  unfolding fields type_fits
  said-type = rw e

-- what `read` knows of its checks
pub ruleset checks = (long_enough, said-length, said-type)

-- The checks at the head of any chain, by what was read: what follows them and what is known there, or the refusal

module _ (m : List ℕ) {f : Fields} (e : read_as (Ok f) ≡ reading m) where
  pub reads_on : {A : Type 0} (refuse : Refusal → A) (rest : A) → reads m refuse rest ≡ rest
  reads_on refuse rest = reads_is m refuse rest ∙ ap (λ (y : Reading). then y.outcome refuse rest) (sym e)

  pub read-fields : f ≡ fields m
  unfolding reading
  read-fields = ap (λ (y : Reading). y.fields) (e ∙ reads_on (λ why. reading_of (Err why) no_fields) (reading_of (Ok (Done 0)) (fields m)))

  pub read_length : length_fits m ≡ true
  unfolding reads
  read_length = passed _ _ (reads_on (λ why. false) true)

  pub read-long : header_length ≤ length m
  read-long = long_enough m read_length

pub reads-refused : (m : List ℕ) {why : Refusal} → read_as (Err why) ≡ reading m
    → {A : Type 0} (refuse : Refusal → A) (rest : A) → reads m refuse rest ≡ refuse why
reads-refused m e refuse rest = reads_is m refuse rest ∙ ap (λ (y : Reading). then y.outcome refuse rest) (sym e)
