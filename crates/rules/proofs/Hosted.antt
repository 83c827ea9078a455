-- The host calls: admit and release, where they do something, change the tables in order and as the history's entries say.
use Rattle.std.specs.Prelude.{Ok, Err}
use Rattle.words.specs.Basics.{◌≡◌, refl, ◌∙◌, Bool, true, false, cond, not, ◌||◌, List, ℕ, ◌<◌, arith, eqb, not-true, eq-eqb}
use Rattle.words.specs.Outcomes.{number_of, value_of}
use Rattle.rules.specs.Types.{DeviceAddress, Devices, Binds, Members, Sessions, Outcome, Done, Unsound, OutOfRange, AlreadyAdmitted, NoFreeRecord}
use Rattle.rules.specs.Types.{NotAdmitted}
use Rattle.rules.specs.Lists.{ask, ◌&◌}
use Rattle.rules.specs.Octets.{octets}
use Rattle.rules.specs.Tables.{Rec, some_free, addressed, none, wipe}
use Rattle.rules.specs.Layout.{size, units_length, part_is, device_record, bind_source, bound_device, to_group, member_device, from_device, to_device}
use Rattle.rules.specs.Layout.{session_device}
use Rattle.rules.specs.Frame.{Lent, tables, also, Effect, nothing}
use Rattle.rules.specs.Exists.{admitted}
use Rattle.rules.specs.Sound.{device_in_range, fits}
use Rattle.rules.specs.Host.{settled, admitting, admission, admit, names_device, taking, releasing, release}
use Rattle.rules.specs.History.{Entries, has_page, admits, releases, entries}
use Rattle.rules.proofs.Lists.{never, or_parts, join}
use Rattle.rules.proofs.Words.{shaped, matches-word, addressed-word, to_device_lem, apart}
use Rattle.rules.proofs.Changes.{Storable, spares}
use Rattle.rules.proofs.Kept.{Sane, Allowed, order-wipe, bind-kept, member_kept, session_kept}
use Rattle.rules.proofs.Standing.{says_added, says_withdrawn}
use Rattle.rules.proofs.Stored.{device_stored, device_meets, device-fields}
use Rattle.rules.proofs.Granted.{admitted_small, orders_only, orders_wipe, ok-adding, order-store, ok-closing, Told, told-nothing, told-also}
use Rattle.rules.proofs.Granted.{told_apart, told-closing}

-- the outcome of a host call: 0, with this change in order and as these entries say, or a refusal
pub data Hosted (L : Lent) (x : Effect) (e : Entries) : Outcome → Type 0 where
  granting : Allowed L x → Told x e → Hosted L x e (Ok (Done 0))
  refusing : {o : Outcome} → eqb (number_of o) 0 ≡ false → Hosted L x e o

module _ {L : Lent} {x : Effect} {e : Entries} where
  hosted-ask : {w : Bool} {rest : Outcome} (o : Outcome) → eqb (number_of o) 0 ≡ false → (w ≡ true → Hosted L x e rest) → Hosted L x e (ask w o rest)
  unfolding ask
  hosted-ask {w} {rest} o n f = step w f
    where
      step : (w : Bool) → (w ≡ true → Hosted L x e rest) → Hosted L x e (cond w rest o)
      step true f = f refl
      step false f = refusing n

-- Admit

module _ (L : Lent) (d : DeviceAddress) (a : ℕ) (us : List ℕ) where
  told-admit : Told (admitting d a us) (entries (admits d a us))
  unfolding admitting entries
  told-admit = told-also Devices says_added told-nothing

  ok-admit : shaped units_length us ≡ true → device_in_range d a us ≡ true → not (admitted (tables L Devices) d) ≡ true → some_free (tables L Devices) ≡ true
      → Allowed L (admitting d a us)
  unfolding admitting admitted addressed fits spares nothing also device_record octets
  ok-admit s h n f =
      let i = device-fields d a us h in
      let fit = device_stored d a us (omega arith) (omega arith) s in
      let new = order-store Devices L (device_record d a us) (octets d.0) refl f fit (device_meets d a us h) (not-true _ n) in
      ok-adding L _ (orders_only Devices L _ new) (λ r. refl) (λ r. refl)

  pub hosted-admit : shaped units_length us ≡ true → Hosted L (admitting d a us) (entries (admits d a us)) (admit L d a us).outcome
  unfolding settled admit admission
  hosted-admit s =
      hosted-ask (Err Unsound) refl (λ t. hosted-ask (Err OutOfRange) refl (λ h. hosted-ask (Err AlreadyAdmitted) refl (λ n. hosted-ask (Err NoFreeRecord) refl (λ f.
      granting (ok-admit s h n f) told-admit))))

-- Release

module _ (L : Lent) (d : DeviceAddress) (small : d.0 < 32768) where
  from_device_lem : (b : Rec) → shaped (size Binds) b ≡ true → from_device d b ≡ eqb (bind_source b).0 d.0
  unfolding part_is
  from_device_lem b s = matches-word (size Binds) 0 d.0 b (omega arith) s

  names_device_lem : (b : Rec) → shaped (size Binds) b ≡ true
      → names_device d b ≡ (eqb (bind_source b).0 d.0 || (not (to_group b) & eqb (bound_device b).0 d.0))
  unfolding names_device
  names_device_lem b s = rw (from_device_lem b s, to_device_lem d b small s)

  told-taking : Told (taking d) (entries (releases d))
  unfolding taking entries has_page
  told-taking =
      told-also Devices (says_withdrawn (λ r s. addressed-word (size Devices) d.0 r (omega arith) s))
      (told-also Members (says_withdrawn (λ r s. matches-word (size Members) 2 d.0 r (omega arith) s))
      (told_apart Sessions _ refl (told-also Binds (says_withdrawn names_device_lem) told-nothing)))

  ok-taking : Allowed L (taking d)
  unfolding taking names_device nothing also spares fits Storable
  ok-taking = record {
    order = orders_wipe Devices L _ _ (orders_wipe Members L _ _ (orders_wipe Sessions L _ _ (orders_only Binds L _ (order-wipe Binds L _))));
    binds = λ b s w h.
        let n = or_parts (from_device d b) (to_device d b) (not-true _ w) in
        bind-kept (wipe (addressed d.0)) none _ _ tt tt b
        (λ x e. apart (bind_source b).0 d.0 x (λ z. never _ (rw (n.0)) (from_device_lem b s ∙ eq-eqb (bind_source b).0 d.0 z)) e)
        (λ t x e. apart (bound_device b).0 d.0 x (λ z. never _ (rw (n.1)) (to_device_lem d b small s ∙ join (rw t) (eq-eqb (bound_device b).0 d.0 z))) e)
        (λ t x e. refl) h;
    members = λ m s w h. member_kept (wipe (addressed d.0)) none _ _ tt tt m
        (λ x e. apart (member_device m).0 d.0 x
        (λ z. never _ w (matches-word (size Members) 2 d.0 m (omega arith) s ∙ eq-eqb (member_device m).0 d.0 z)) e)
        (λ x e. refl) h;
    sessions = λ m s w h. session_kept (wipe (addressed d.0)) _ m tt
        (λ x e. apart (session_device m).0 d.0 x
        (λ z. never _ w (addressed-word (size Sessions) d.0 m (omega arith) s ∙ eq-eqb (session_device m).0 d.0 z)) e) h;
  }

pub hosted-release : (L : Lent) (d : DeviceAddress) → Sane L → Hosted L (releasing (tables L) d) (entries (releases d)) (release L d).outcome
unfolding settled release releasing
hosted-release L d S =
    hosted-ask (Err Unsound) refl (λ s. hosted-ask (Err NotAdmitted) refl (λ a.
    let l = admitted_small L d S a in
    granting (ok-closing (tables L) (ok-taking L d l)) (told-closing (tables L) (told-taking L d l))))

-- Neither has a count or a length

value_ask : (w : Bool) (o rest : Outcome) → value_of o ≡ 0 → value_of rest ≡ 0 → value_of (ask w o rest) ≡ 0
unfolding ask
value_ask true o rest h g = g
value_ask false o rest h g = h

pub value_admit : (L : Lent) (d : DeviceAddress) (a : ℕ) (us : List ℕ) → value_of (admit L d a us).outcome ≡ 0
unfolding settled admit admission
value_admit L d a us =
    value_ask _ (Err Unsound) _ refl (value_ask _ (Err OutOfRange) _ refl (value_ask _ (Err AlreadyAdmitted) _ refl (value_ask _ (Err NoFreeRecord) (Ok (Done 0)) refl refl)))

pub value_release : (L : Lent) (d : DeviceAddress) → value_of (release L d).outcome ≡ 0
unfolding settled release
value_release L d = value_ask _ (Err Unsound) _ refl (value_ask _ (Err NotAdmitted) (Ok (Done 0)) refl refl)
