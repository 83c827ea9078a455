-- The binds near a message reach whom all binds reach.
use Rattle.std.specs.Prelude.{Option}
use Rattle.words.specs.Basics.{◌≡◌, refl, sym, ◌∙◌, Bool, true, false≢true, not, List, map, ℕ, ◌<◌, ◌≤◌, arith, length, get_or}
use Rattle.words.specs.declared.Destination.{Destination}
use Rattle.rules.specs.Types.{Fields, Concentrator, BindAddress, Unit, Group, Binds, Members}
use Rattle.rules.specs.Lists.{has}
use Rattle.rules.specs.Units.{ordered}
use Rattle.rules.specs.Layout.{full}
use Rattle.rules.specs.Frame.{table}
use Rattle.rules.specs.Recipients.{bound}
use Rattle.rules.proofs.Order.{has-keep, ordered_same}
use Rattle.rules.proofs.Records.{length-records}
use Rattle.index_rules.specs.Index.{right_index, entry}
use Rattle.index_rules.specs.Walks.{near, Listed}
use Rattle.index_rules.proofs.Entries.{right-listed}
use Rattle.index_rules.proofs.Nearby.{nearby}
use Rattle.indexing.proofs.Positions.{entry-octet}
use Rattle.collecting.specs.Leaving.{left_out, leaving, bound_but}
use Rattle.delivery.proofs.Enough.{Within, all_units, bound-within}
use Rattle.nearby.specs.Running.{near_but, to_binds}

module _ (bs : List ℕ) {ix : List ℕ} (o : (i : ℕ) → get_or bs i 0 < 256) (l : length bs ≤ full Binds) (e : ix ≡ right_index (table Binds bs)) where
  few : length (table Binds bs) ≤ 255
  few = rw length-records (omega arith)

  pub near-listed : Listed (table Binds bs) ix
  near-listed = rw e (right-listed (table Binds bs) few)

  module _ (ms : List ℕ) (x : Option ℕ) (f : Fields) where
    near_reach : (u : ℕ) → has u (near_but x f (table Members ms) (table Binds bs) ix) ≡ has u (bound_but x f (table Members ms) (table Binds bs))
    unfolding near_but bound_but leaving
    near_reach u =
        has-keep (λ v. not (left_out x v)) u (bound (map (entry (table Binds bs)) (near (table Binds bs) f ix)) (table Members ms) f)
        ∙ rw (nearby (table Binds bs) few (entry-octet bs o) ix e (table Members ms) f u)
        (sym (has-keep (λ v. not (left_out x v)) u (bound (table Binds bs) (table Members ms) f)))

    -- they are among the units of all binds and all member records
    pub near_within : Within (near_but x f (table Members ms) (table Binds bs) ix) (all_units bs ms)
    near_within u h = bound-within x f bs ms u (sym (near_reach u) ∙ h)

    -- and in order the same
    pub near-ordered : ordered (near_but x f (table Members ms) (table Binds bs) ix) ≡ ordered (bound_but x f (table Members ms) (table Binds bs))
    near-ordered = ordered_same _ _ near_reach

-- the messages that go by the index
pub to_bind_address_lem : (to : Destination) {b : Bool} → b ≡ to_binds to → b ≡ true → to ≡ BindAddress
to_bind_address_lem Concentrator e h = absurd (false≢true (sym e ∙ h))
to_bind_address_lem BindAddress e h = refl
to_bind_address_lem (Unit d u) e h = absurd (false≢true (sym e ∙ h))
to_bind_address_lem (Group g) e h = absurd (false≢true (sym e ∙ h))
