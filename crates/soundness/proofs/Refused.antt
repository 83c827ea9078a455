-- A refusal is not outcome 0.
use Rattle.std.specs.Prelude.{Ok, Err}
use Rattle.words.specs.Basics.{◌≡◌, refl, false, eqb, ne_eqb}
use Rattle.words.specs.Outcomes.{number_of}
use Rattle.words.proofs.Apart.{apart}
use Rattle.rules.specs.Types.{Refusal, Done}

pub refusal-number : (why : Refusal) → eqb (number_of (Err why)) 0 ≡ false
refusal-number why = ne_eqb (number_of (Err why)) 0 (λ h. let e = apart (Err why) (Ok (Done 0)) h refl in cc)
