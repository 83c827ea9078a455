-- Laws of the chain: its parts one behind the other are the whole, and a unit that exists is one of a device that does.
use Rattle.std.specs.Prelude.{Option, None, Some, Result, Ok, Err, ⊤, is_ok}
use Rattle.words.specs.Basics.{◌≡◌, refl, sym, ap, ◌∙◌, Bool, true, false, cond, not, List, ℕ, eqb, eq-eqb, ne_eqb}
use Rattle.words.specs.Names.{concentrator}
use Rattle.words.specs.Reasons.{reason_number, faultless, fault_in}
use Rattle.words.proofs.Apart.{reason_back, reason_back_lem}
use Rattle.rules.specs.Types.{DeviceAddress, Reason, PayloadLength, NoSourceDevice, NoSourceUnit, DestinationUnitFF, NoDestinationDevice}
use Rattle.rules.specs.Types.{NoDestinationUnit, NoGroup, BoundToItself, AlreadyPresent}
use Rattle.rules.specs.Lists.{any, ask}
use Rattle.rules.specs.Tables.{Rec, used, addressed}
use Rattle.rules.specs.Layout.{bind_source, bind_source_unit, bind_from, from_any_device, from_any_unit}
use Rattle.rules.specs.Layout.{to_group, bound_group, bound_device, bind_unit, bind_to}
use Rattle.rules.specs.Exists.{admitted, has_unit, unit_exists, device_exists, group_exists}
use Rattle.rules.specs.Faults.{has_source_device, has_source_unit, names_unit, has_bound_device, has_bound_unit, has_bound_group, to_another, fault, bind_fault}
use Rattle.rules.proofs.Lists.{split, any_weaken}
use Rattle.faults.specs.Parts.{or_else, unit_fault, source_fault, destination_fault}

-- two checks, and what is behind them
two-asks : (a c : Bool) (f g : Reason) (rest : Option Reason) → ask a (Some f) (ask c (Some g) rest) ≡ or_else (ask a (Some f) (ask c (Some g) None)) rest
unfolding ask or_else
two-asks false c f g rest = refl
two-asks true false f g rest = refl
two-asks true true f g rest = refl

module _ (ds gs : List Rec) (b : Rec) where
  -- the source, the unit that is none, the destination
  pub in_parts : bind_fault ds gs b ≡ or_else (source_fault ds b) (ask (names_unit b) (Some DestinationUnitFF) (destination_fault ds gs b))
  unfolding fault ask source_fault destination_fault or_else
  in_parts =
      two-asks (has_source_device ds b) (has_source_unit ds b) NoSourceDevice NoSourceUnit
      (ask (names_unit b) (Some DestinationUnitFF) (destination_fault ds gs b))

  -- the destination, by its flag

  pub to_a-group : to_group b ≡ true → destination_fault ds gs b ≡ ask (group_exists gs (bound_group b)) (Some NoGroup) None
  unfolding destination_fault ask
  to_a-group w = rw w

  pub to_a_unit : to_group b ≡ false → destination_fault ds gs b
      ≡ or_else (unit_fault ds (bound_device b) (bind_unit b) NoDestinationDevice NoDestinationUnit) (ask (not (eqb (bind_to b) (bind_from b))) (Some BoundToItself) None)
  unfolding destination_fault unit_fault ask or_else
  to_a_unit w =
      rw w (two-asks (device_exists ds (bound_device b)) (unit_exists ds (bound_device b) (bind_unit b)) NoDestinationDevice NoDestinationUnit
      (ask (not (eqb (bind_to b) (bind_from b))) (Some BoundToItself) None))

  -- the length before, the presence behind
  pub around : (whole new : Bool) → fault whole ds gs b new ≡ ask whole (Some PayloadLength) (or_else (bind_fault ds gs b) (ask new (Some AlreadyPresent) None))
  unfolding fault ask or_else
  around whole new =
      ap (λ (r : Option Reason). ask whole (Some PayloadLength) r)
      (step (has_source_device ds b) (has_source_unit ds b) (names_unit b) (has_bound_device ds b) (has_bound_unit ds b) (has_bound_group gs b) (to_another b))
    where
      chain : Option Reason → (a b c d e f g : Bool) → Option Reason
      chain rest a b c d e f g =
          ask a (Some NoSourceDevice) (ask b (Some NoSourceUnit) (ask c (Some DestinationUnitFF) (ask d (Some NoDestinationDevice)
          (ask e (Some NoDestinationUnit) (ask f (Some NoGroup) (ask g (Some BoundToItself) rest))))))

      step : (a b c d e f g : Bool) → chain (ask new (Some AlreadyPresent) None) a b c d e f g
          ≡ or_else (chain None a b c d e f g) (ask new (Some AlreadyPresent) None)
      step false b c d e f g = refl
      step true false c d e f g = refl
      step true true false d e f g = refl
      step true true true false e f g = refl
      step true true true true false f g = refl
      step true true true true true false g = refl
      step true true true true true true false = refl
      step true true true true true true true = refl

-- the source, by what is written out
module _ (ds : List Rec) (b : Rec) (w : from_any_device b ≡ false) where
  pub from_unit : from_any_unit b ≡ false → source_fault ds b ≡ unit_fault ds (bind_source b) (bind_source_unit b) NoSourceDevice NoSourceUnit
  unfolding source_fault unit_fault
  from_unit v = rw (w, v)

  pub from_device_lem : from_any_unit b ≡ true → source_fault ds b ≡ ask (device_exists ds (bind_source b)) (Some NoSourceDevice) None
  unfolding source_fault ask
  from_device_lem v = rw (w, v)

-- what the first part told, and nothing more is asked; or it told nothing

pub first_fault : {f : Reason} {g : Option Reason} (rest : Option Reason) → Some f ≡ g → Some f ≡ or_else g rest
unfolding or_else
first_fault rest e = rw (← e)

pub no_first_fault : {g : Option Reason} (rest : Option Reason) → None ≡ g → rest ≡ or_else g rest
unfolding or_else
no_first_fault rest e = rw (← e)

-- a check tells nothing iff it passes
pub ok-faultless : (r : Result ⊤ Reason) → is_ok r ≡ faultless (fault_in r)
unfolding faultless reason_back
ok-faultless (Ok x) = refl
ok-faultless (Err f) = sym (ne_eqb (reason_number (Some f)) 0 (λ z. none f (sym (reason_back_lem (Some f)) ∙ ap reason_back z)))
  where
    none : (f : Reason) → Some f ≡ reason_back 0 → ⊥
    none f e = cc

-- a check that two numbers differ

pub same_fails : {m n : ℕ} (o r : Option Reason) → m ≡ n → o ≡ ask (not (eqb m n)) o r
unfolding ask
same_fails {m} {n} o r e = rw (eq-eqb m n e)

pub other_passes : {m n : ℕ} (o r : Option Reason) → (m ≡ n → ⊥) → r ≡ ask (not (eqb m n)) o r
unfolding ask
other_passes {m} {n} o r z = rw (ne_eqb m n z)

-- a unit that exists is one of a device that does
pub of_device_lem : (ds : List Rec) (d : DeviceAddress) (u : ℕ) → unit_exists ds d u ≡ true → device_exists ds d ≡ true
unfolding unit_exists device_exists admitted has_unit
of_device_lem ds d u h = step (eqb d.0 concentrator.0) h
  where
    step : (b : Bool) → cond b (eqb u 0) (any (has_unit d u) (used ds)) ≡ true → cond b true (any (addressed d.0) (used ds)) ≡ true
    step true h = refl
    step false h = any_weaken (has_unit d u) (addressed d.0) (λ r m. (split m).0) (used ds) h
