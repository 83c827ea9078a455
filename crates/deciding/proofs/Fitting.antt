-- What is lent fits, or any chain that asks it answers the refusal of the first check which fails.
use Rattle.std.specs.Prelude.{Ok, Err}
use Rattle.words.specs.Basics.{◌≡◌, refl, sym, ap, ◌∙◌, Bool, true, false, List, ℕ}
use Rattle.words.specs.Outcomes.{without_length}
use Rattle.rules.specs.Types.{Refusal, Done, Unsound, NoRoom}
use Rattle.rules.specs.Lists.{ask}
use Rattle.rules.specs.Frame.{Lent}
use Rattle.rules.specs.Sound.{sound}
use Rattle.rules.specs.Calls.{roomy}
use Rattle.messages.proofs.Reading.{then}
use Rattle.deciding.specs.Lending.{lending}

module _ (L : Lent) (r l : List ℕ) {A : Type 0} (refuse : Refusal → A) (rest : A) where
  abbrev asks : A
  asks = ask (roomy L.binds L.members r l) (refuse NoRoom) (ask (sound L) (refuse Unsound) rest)

  asks_is : asks ≡ then (lending L r l) refuse rest
  unfolding ask lending
  asks_is = step (roomy L.binds L.members r l) (sound L)
    where
      step : (a b : Bool) → ask a (refuse NoRoom) (ask b (refuse Unsound) rest) ≡ then (ask a (Err NoRoom) (ask b (Err Unsound) (Ok (Done 0)))) refuse rest
      step true true = refl
      step true false = refl
      step false b = refl

  -- each check was passed
  pub lends : without_length (Ok tt) ≡ lending L r l → asks ≡ rest
  lends e = asks_is ∙ ap (λ o. then o refuse rest) (sym e)

  -- or one was not
  pub lent-refused : {why : Refusal} → without_length (Err why) ≡ lending L r l
      → asks ≡ refuse why
  lent-refused e = asks_is ∙ ap (λ o. then o refuse rest) (sym e)
