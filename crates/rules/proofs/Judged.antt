-- The codes of a command: no other is 0x00, and what a command answered 0x00 has passed.
use Rattle.words.specs.Basics.{◌≡◌, ap, true, List, ℕ, arith, length, eqb-true}
use Rattle.words.specs.Names.{code, ok, not_authorized, invalid_argument, no_read_session, not_enough_resources}
use Rattle.words.specs.Reasons.{faultless}
use Rattle.rules.specs.Types.{DeviceAddress, Code, Command, Devices}
use Rattle.rules.specs.Frame.{Tables}
use Rattle.rules.specs.Commands.{row, rights_fit, payload_fits, judge}
use Rattle.rules.proofs.Lists.{pass}

-- no other code is 0x00
not-ok : (n : ℕ) → (n ≡ 0 → ⊥) → code n ≡ ok → ⊥
not-ok n z e = z (ap (λ (c : Code). c.0) e)

pub invalid : invalid_argument ≡ ok → ⊥
invalid = not-ok 0x02 (λ z. omega arith)

pub full : not_enough_resources ≡ ok → ⊥
full = not-ok 0xFE (λ z. omega arith)

pub unauthorized : not_authorized ≡ ok → ⊥
unauthorized = not-ok 0x01 (λ z. omega arith)

pub no_session : no_read_session ≡ ok → ⊥
no_session = not-ok 0x20 (λ z. omega arith)

-- The checks that a command answered 0x00 passed

pub record Passed (T : Tables) (s : DeviceAddress) (k : Command) (p : List ℕ) : Type 0 where
  pub rights : rights_fit (T Devices) s k ≡ true
  pub length : length p ≡ (row k).length p
  pub fault : faultless ((row k).fault T p) ≡ true
  pub verdict : (row k).verdict T s p ≡ ok

pub passed : (T : Tables) (s : DeviceAddress) (k : Command) (p : List ℕ) → judge T s k p ≡ ok → Passed T s k p
unfolding judge payload_fits
passed T s k p j =
    let a = pass unauthorized j in
    let b = pass invalid a.1 in
    let c = pass invalid b.1 in
    record { rights = a.0; length = eqb-true (length p) ((row k).length p) b.0; fault = c.0; verdict = c.1 }
