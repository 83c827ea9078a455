-- Laws of the checks before a command's own: what one that fails leaves, and what is behind them.
use Rattle.std.specs.Prelude.{Option, None, Some, Result, Ok, Err, ⊤}
use Rattle.std.specs.Result.{result_err}
use Rattle.words.specs.Basics.{◌≡◌, refl, sym, ◌∙◌, Bool, true, false, cond, List, [], ◌∷◌, ℕ, length, eqb, eq-eqb, ne_eqb}
use Rattle.words.specs.Names.{ok, not_authorized, invalid_argument}
use Rattle.words.specs.Reasons.{faultless, fault_in}
use Rattle.rules.specs.Types.{DeviceAddress, Code, Reason, Command, Devices}
use Rattle.rules.specs.Octets.{over}
use Rattle.rules.specs.Frame.{Lent, Tables, tables}
use Rattle.rules.specs.Exists.{has_rights}
use Rattle.rules.specs.Commands.{row, rights_fit, payload_fits, judge, explained, on_ok, done, reply_payload}
use Rattle.rules.proofs.Lists.{ask_pass, ask_fail}
use Rattle.rules.proofs.Frames.{changed-nothing}
use Rattle.rules.proofs.Faults.{some_fault}
use Rattle.acting.specs.Acting.{performed, performing}

-- a code other than 0x00 is the whole reply, and the tables stay
pub refused : (L : Lent) (s : DeviceAddress) (k : Command) (p out : List ℕ) (c : Code) → (c.0 ≡ ok.0 → ⊥)
    → performed 1 L (over (c.0 ∷ []) out) ≡ performing L (done (tables L) s k p c) k p c out
unfolding performing reply_payload done on_ok
refused L s k p out c n = rw (ne_eqb c.0 ok.0 n, changed-nothing L)

module _ (L : Lent) (s : DeviceAddress) (k : Command) (p : List ℕ) {rights : Bool} (e : rights ≡ (row k).rights) where
  rights_are : {b : Bool} → b ≡ cond rights (has_rights (tables L Devices) s) true → rights_fit (tables L Devices) s k ≡ b
  unfolding rights_fit
  rights_are h = rw (← e) (sym h)

  pub without-rights : {b : Bool} → b ≡ cond rights (has_rights (tables L Devices) s) true → b ≡ false → judge (tables L) s k p ≡ not_authorized
  unfolding judge
  without-rights h f = ask_fail _ _ (rights_are h ∙ f)

  module _ {b : Bool} (h : b ≡ cond rights (has_rights (tables L Devices) s) true) (t : b ≡ true) {n : ℕ} (l : n ≡ (row k).length p) where
    pub wrong-length : (length p ≡ n → ⊥) → judge (tables L) s k p ≡ invalid_argument
    unfolding judge payload_fits
    wrong-length z = ask_pass _ _ (rights_are h ∙ t) ∙ ask_fail _ _ (ne_eqb (length p) ((row k).length p) (λ y. z (y ∙ sym l)))

    module _ (z : length p ≡ n) {f : Option Reason} (g : f ≡ (row k).fault (tables L) p) where
      pub faulty : {x : Reason} → f ≡ Some x → judge (tables L) s k p ≡ invalid_argument
      unfolding judge payload_fits
      faulty {x} y = ask_pass _ _ (rights_are h ∙ t) ∙ ask_pass _ _ (eq-eqb (length p) ((row k).length p) (z ∙ l))
          ∙ ask_fail _ _ (rw (← g, y) (some_fault x))

      pub behind_checks : f ≡ None → judge (tables L) s k p ≡ (row k).verdict (tables L) s p
      unfolding judge payload_fits faultless
      behind_checks y = ask_pass _ _ (rights_are h ∙ t) ∙ ask_pass _ _ (eq-eqb (length p) ((row k).length p) (z ∙ l)) ∙ ask_pass _ _ (rw (← g, y))

-- what a check tells is its error
pub err_is : (x : Result ⊤ Reason) → result_err x ≡ fault_in x
err_is (Ok x) = refl
err_is (Err f) = refl

-- What the caller is told of a code

module _ (T : Tables) (k : Command) (p : List ℕ) where
  pub told-nothing : {c : Code} → c ≡ not_authorized → None ≡ explained T k p c
  unfolding explained
  told-nothing e = rw e

  pub told-fault : {c : Code} {f : Option Reason} → f ≡ (row k).fault T p → c ≡ invalid_argument → f ≡ explained T k p c
  unfolding explained
  told-fault g e = rw (g, e)

  -- where nothing is wrong, whatever the code
  pub told_no_fault : (c : Code) {f : Option Reason} → f ≡ (row k).fault T p → f ≡ None → None ≡ explained T k p c
  unfolding explained
  told_no_fault c g y = rw (← g, y) (step (eqb c.0 invalid_argument.0))
    where
      step : (b : Bool) → ◌≡◌ {A = Option Reason} None (cond b None None)
      step true = refl
      step false = refl
