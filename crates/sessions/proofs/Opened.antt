-- Laws of a session that is opened, used and ended, by what was found.
use Rattle.words.specs.Basics.{◌≡◌, ap, true, false, not, List, [], ◌∷◌, ℕ, ◌≤◌, arith, length}
use Rattle.words.specs.Names.{ok, no_read_session, not_enough_resources}
use Rattle.rules.specs.Types.{DeviceAddress, Code, Filter, Binds, Sessions}
use Rattle.rules.specs.Lists.{ask}
use Rattle.rules.specs.Octets.{octets, over}
use Rattle.rules.specs.Tables.{Rec, is_free, used, some_free, store, written}
use Rattle.rules.specs.Layout.{size, full, session_record}
use Rattle.rules.specs.Frame.{table}
use Rattle.rules.specs.Sessions.{in_session, entries_by, listing}
use Rattle.rules.specs.Commands.{opening, session_or, on_ok}
use Rattle.rules.proofs.Lists.{few-kept}
use Rattle.rules.proofs.Records.{length-records}
use Rattle.changing.specs.Changing.{Coded, coded}
use Rattle.sessions.specs.Reading.{opened, started, starting, reading}

module _ (s : DeviceAddress) (ss : List ℕ) where
  pub has_one : in_session (table Sessions ss) s ≡ true → coded ok ss ≡ opened s ss
  unfolding opened opening ask on_ok
  has_one h = rw h

  module _ (n : in_session (table Sessions ss) s ≡ false) where
    pub none_free : some_free (table Sessions ss) ≡ false → coded not_enough_resources ss ≡ opened s ss
    unfolding opened opening ask on_ok
    none_free f = rw (n, f)

    pub one_more : {r : Rec} {ss' : List ℕ} → some_free (table Sessions ss) ≡ true → r ≡ octets s.0
        → ss' ≡ written (size Sessions) (store r) ss → coded ok ss' ≡ opened s ss
    unfolding opened opening ask on_ok session_record
    one_more f e w = rw (n, f, w, e)

-- Start whole
pub starts : (bs ss : List ℕ) (s : DeviceAddress) (out : List ℕ) {c : Code} {n count : ℕ} {ss' out' : List ℕ} → coded c ss' ≡ opened s ss
    → count ≡ length (used (table Binds bs))
    → (n ≡ length (c.0 ∷ on_ok c (octets count) [])) × (out' ≡ over (c.0 ∷ on_ok c (octets count) []) out)
    → started n ss' out' ≡ starting bs ss s out
unfolding starting
starts bs ss s out d e w = rw (w.0, w.1, e, ap (λ (y : Coded). y.code) d, ap (λ (y : Coded). y.table) d)

-- no more binds than records
pub few-binds : (bs : List ℕ) {n : ℕ} → length bs ≤ full Binds → n ≡ length (used (table Binds bs)) → n ≤ 64
unfolding used
few-binds bs h e = omega (arith, e, few-kept (λ r. not (is_free r)) (table Binds bs), length-records (size Binds) bs)

-- the code of who has a session, and of who has none
module _ (c : Code) (s : DeviceAddress) (ss : List Rec) where
  pub in_one : in_session ss s ≡ true → ok ≡ session_or c s ss
  unfolding session_or ask
  in_one h = rw h

  pub in_none : in_session ss s ≡ false → c ≡ session_or c s ss
  unfolding session_or ask
  in_none h = rw h

-- a read's reply
module _ (bs ss : List Rec) (s : DeviceAddress) (f : Filter) (p : List ℕ) where
  pub read-refused : in_session ss s ≡ false → no_read_session.0 ∷ [] ≡ reading bs ss s f p
  unfolding reading session_or ask on_ok
  read-refused h = rw h

  pub read-granted : in_session ss s ≡ true → ok.0 ∷ listing (entries_by f p bs) ≡ reading bs ss s f p
  unfolding reading session_or ask on_ok
  read-granted h = rw h
