-- Laws of what exists: an address and the rights behind it are three octets that a record begins with.
use Rattle.words.specs.Basics.{◌≡◌, refl, Bool, true, false, ◌&&◌, List, [], ◌∷◌, ℕ, ◌/◌, ◌%◌, eqb}
use Rattle.rules.specs.Types.{DeviceAddress}
use Rattle.rules.specs.Lists.{◌&◌, any}
use Rattle.rules.specs.Octets.{octet, octets}
use Rattle.rules.specs.Tables.{Rec, matches, addressed}
use Rattle.rules.specs.Exists.{may_command}
use Rattle.rules.proofs.Lists.{any_same}

-- three tests joined either way
regroup : (a b c : Bool) → (a && (b && (c && true))) ≡ ((a && (b && true)) && c)
regroup true true true = refl
regroup true true false = refl
regroup true false c = refl
regroup false b c = refl

module _ (d : DeviceAddress) where
  may_command_lem : (r : Rec) → matches 0 (d.0 / 256 ∷ d.0 % 256 ∷ 1 ∷ []) r ≡ may_command d r
  unfolding matches may_command addressed octets ◌&◌
  may_command_lem [] = refl
  may_command_lem (x ∷ []) = regroup (eqb x (d.0 / 256)) false false
  may_command_lem (x ∷ y ∷ []) = regroup (eqb x (d.0 / 256)) (eqb y (d.0 % 256)) false
  may_command_lem (x ∷ y ∷ z ∷ r) = regroup (eqb x (d.0 / 256)) (eqb y (d.0 % 256)) (eqb z 1)

  pub rights-any : {s : List ℕ} (t : List Rec) → s ≡ octets d.0 → any (matches 0 (octet 0 s ∷ octet 1 s ∷ 1 ∷ [])) t ≡ any (may_command d) t
  unfolding octets
  rights-any t e = rw e (any_same _ _ may_command_lem t)
