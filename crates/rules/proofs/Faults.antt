-- Laws of the nine reasons: a bind without fault passes every check, and one that passes them has no fault.
use Rattle.std.specs.Prelude.{Option, None, Some}
use Rattle.words.specs.Basics.{◌≡◌, refl, ap, ◌∙◌, Bool, true, false, List, eqb-true, eqb-false}
use Rattle.words.specs.Reasons.{reason_number, faultless}
use Rattle.words.proofs.Apart.{reason_apart}
use Rattle.rules.specs.Types.{Reason, PayloadLength, NoSourceDevice, NoSourceUnit, DestinationUnitFF, NoDestinationDevice, NoDestinationUnit}
use Rattle.rules.specs.Types.{NoGroup, BoundToItself, AlreadyPresent}
use Rattle.rules.specs.Tables.{Rec}
use Rattle.rules.specs.Faults.{has_source_device, has_source_unit, names_unit, has_bound_device, has_bound_unit, has_bound_group, to_another, fault}
use Rattle.rules.proofs.Lists.{ask_pass, pass}

-- the nine checks
pub record Meets (whole : Bool) (ds gs : List Rec) (b : Rec) (new : Bool) : Type 0 where
  pub length : whole ≡ true
  pub source-device : has_source_device ds b ≡ true
  pub source_unit_lem : has_source_unit ds b ≡ true
  pub a_unit : names_unit b ≡ true
  pub device : has_bound_device ds b ≡ true
  pub unit : has_bound_unit ds b ≡ true
  pub group : has_bound_group gs b ≡ true
  pub another : to_another b ≡ true
  pub absent : new ≡ true

-- nothing wrong is no fault, and each of the nine is one
pub none : (f : Option Reason) → faultless f ≡ true → f ≡ None
unfolding faultless
none f h = reason_apart f None (eqb-true (reason_number f) 0 h)

pub some_fault : (f : Reason) → faultless (Some f) ≡ false
unfolding faultless
some_fault PayloadLength = refl
some_fault NoSourceDevice = refl
some_fault NoSourceUnit = refl
some_fault DestinationUnitFF = refl
some_fault NoDestinationDevice = refl
some_fault NoDestinationUnit = refl
some_fault NoGroup = refl
some_fault BoundToItself = refl
some_fault AlreadyPresent = refl

wrong : (f : Option Reason) → faultless f ≡ false → f ≡ None → ⊥
unfolding faultless
wrong f n e = eqb-false (reason_number f) 0 n (ap reason_number e)

module _ {whole : Bool} {ds gs : List Rec} {b : Rec} {new : Bool} where
  pub meets : faultless (fault whole ds gs b new) ≡ true → Meets whole ds gs b new
  unfolding fault faultless
  meets h =
      let c1 = pass (wrong (Some PayloadLength) refl) (none _ h) in
      let c2 = pass (wrong (Some NoSourceDevice) refl) c1.1 in
      let c3 = pass (wrong (Some NoSourceUnit) refl) c2.1 in
      let c4 = pass (wrong (Some DestinationUnitFF) refl) c3.1 in
      let c5 = pass (wrong (Some NoDestinationDevice) refl) c4.1 in
      let c6 = pass (wrong (Some NoDestinationUnit) refl) c5.1 in
      let c7 = pass (wrong (Some NoGroup) refl) c6.1 in
      let c8 = pass (wrong (Some BoundToItself) refl) c7.1 in
      let c9 = pass (wrong (Some AlreadyPresent) refl) c8.1 in
      record {
        length = c1.0;
        source-device = c2.0;
        source_unit_lem = c3.0;
        a_unit = c4.0;
        device = c5.0;
        unit = c6.0;
        group = c7.0;
        another = c8.0;
        absent = c9.0;
      }

  -- what a table asks of the bind, which is all but its length and presence
  pub by_fields : Meets whole ds gs b new → Meets true ds gs b true
  by_fields m = record {
    length = refl;
    source-device = m.source-device;
    source_unit_lem = m.source_unit_lem;
    a_unit = m.a_unit;
    device = m.device;
    unit = m.unit;
    group = m.group;
    another = m.another;
    absent = refl;
  }

  pub no_fault : Meets whole ds gs b new → fault whole ds gs b new ≡ None
  unfolding fault
  no_fault m = ask_pass _ _ m.length ∙ ask_pass _ _ m.source-device ∙ ask_pass _ _ m.source_unit_lem ∙ ask_pass _ _ m.a_unit
      ∙ ask_pass _ _ m.device ∙ ask_pass _ _ m.unit ∙ ask_pass _ _ m.group ∙ ask_pass _ _ m.another ∙ ask_pass _ _ m.absent

  pub fits_all : Meets whole ds gs b new → faultless (fault whole ds gs b new) ≡ true
  unfolding faultless
  fits_all m = rw (no_fault m)
