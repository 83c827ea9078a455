-- The faults of Add Bind in the order in which the code asks.
use Rattle.std.specs.Prelude.{Option, None, Some}
use Rattle.words.specs.Basics.{◌≡◌, refl, sym, ◌∙◌, Bool, not, List, ℕ, length, eq-eqb, ne_eqb}
use Rattle.words.specs.Reasons.{faultless}
use Rattle.rules.specs.Types.{Reason, PayloadLength, NoSourceDevice, NoSourceUnit, DestinationUnitFF, NoDestinationDevice, NoDestinationUnit, NoGroup}
use Rattle.rules.specs.Types.{BoundToItself, AlreadyPresent, Binds}
use Rattle.rules.specs.Lists.{any, ask}
use Rattle.rules.specs.Tables.{Rec, used, matches}
use Rattle.rules.specs.Layout.{size}
use Rattle.rules.specs.Payloads.{bind_of}
use Rattle.rules.specs.Faults.{bind_fault, add_fault}
use Rattle.rules.proofs.Lists.{ask_pass, ask_fail}
use Rattle.faults.specs.Parts.{or_else}
use Rattle.faults.proofs.Chain.{around}

-- a fault that was found is told, whatever the checks behind it say
first : (f : Reason) (rest : Option Reason) → or_else (Some f) rest ≡ Some f
unfolding or_else faultless
first PayloadLength rest = refl
first NoSourceDevice rest = refl
first NoSourceUnit rest = refl
first DestinationUnitFF rest = refl
first NoDestinationDevice rest = refl
first NoDestinationUnit rest = refl
first NoGroup rest = refl
first BoundToItself rest = refl
first AlreadyPresent rest = refl

module _ (ds bs gs : List Rec) (p : List ℕ) where
  pub wrong-length : (length p ≡ size Binds → ⊥) → Some PayloadLength ≡ add_fault ds bs gs p
  unfolding add_fault
  wrong-length z = sym (around ds gs (bind_of p) _ _ ∙ ask_fail _ _ (ne_eqb (length p) (size Binds) z))

  module _ {b : List ℕ} (o : b ≡ bind_of p) (l : length p ≡ size Binds) where
    behind-length : or_else (bind_fault ds gs (bind_of p)) (ask (not (any (matches 0 (bind_of p)) (used bs))) (Some AlreadyPresent) None)
        ≡ add_fault ds bs gs p
    unfolding add_fault
    behind-length = sym (around ds gs (bind_of p) _ _ ∙ ask_pass _ _ (eq-eqb (length p) (size Binds) l))

    pub wrong-field : {f : Reason} → Some f ≡ bind_fault ds gs b → Some f ≡ add_fault ds bs gs p
    wrong-field {f} e = sym (first f _) ∙ rw (← o, ← e) at behind-length

    pub behind-fields : {there : Bool} → None ≡ bind_fault ds gs b → there ≡ any (matches 0 b) (used bs)
        → ask (not there) (Some AlreadyPresent) None ≡ add_fault ds bs gs p
    unfolding or_else faultless
    behind-fields e h = rw h (rw (← o, ← e) at behind-length)
