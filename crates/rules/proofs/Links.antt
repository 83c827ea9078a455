-- What the tables answer and what the history says: the recipients are the linked units, and the units that exist are the existing ones.
use Rattle.words.specs.Basics.{◌≡◌, refl, sym, ap, ◌∙◌, Bool, true, false, cond, not, ◌&&◌, ◌||◌, List, [], ◌∷◌, ℕ, arith, eqb}
use Rattle.rules.specs.Types.{DeviceAddress, GroupAddress, Fields, BindAddress, Devices, Binds, Members}
use Rattle.rules.specs.Lists.{any, all, keep, has, ◌&◌}
use Rattle.rules.specs.Octets.{octet_string}
use Rattle.rules.specs.Units.{rising}
use Rattle.rules.specs.Tables.{Rec, used}
use Rattle.rules.specs.Layout.{size, in_set, device_address, device_units, to_group, bound_group, bind_to, member_group, member_number, in_group}
use Rattle.rules.specs.Frame.{Lent, tables}
use Rattle.rules.specs.Message.{fields, sender}
use Rattle.rules.specs.Exists.{has_unit, unit_exists}
use Rattle.rules.specs.Recipients.{members_of, bind_matches, reached, bound, recipients}
use Rattle.rules.specs.History.{Event, has_page, standing, reaches, made_for, linked, existing, Exactly}
use Rattle.rules.proofs.Lists.{any_alike, any-keep, any-map, any-flat_map}
use Rattle.rules.proofs.Words.{shaped, addressed-word}
use Rattle.rules.proofs.Numbers.{made_for_lem}
use Rattle.rules.proofs.Changes.{all-used, shaped-records}
use Rattle.rules.proofs.Distinct.{eqb_turn}
use Rattle.rules.proofs.Order.{has-ordered, has-without, rising-ordered, rising_unique}
use Rattle.rules.proofs.Standing.{Agree, agree_any}
use Rattle.rules.proofs.Run.{Held}

module _ (ms : List Rec) (shapes : all (shaped (size Members)) ms ≡ true) where
  has-members : (u : ℕ) (g : GroupAddress) → any (eqb u) (members_of ms g) ≡ any (λ x. eqb (member_group x).0 g.0 & eqb (member_number x) u) (used ms)
  unfolding members_of ◌&◌
  has-members u g =
      any-map (eqb u) member_number (keep (in_group g) (used ms))
      ∙ any-keep (λ x. eqb u (member_number x)) (in_group g) (used ms)
      ∙ any_alike (shaped (size Members)) (λ x. in_group g x && eqb u (member_number x)) (λ x. eqb (member_group x).0 g.0 && eqb (member_number x) u)
      (λ x s. rw (addressed-word (size Members) g.0 x (omega arith) s, eqb_turn u (member_number x)))
      (used ms) (all-used (shaped (size Members)) ms shapes)

  has-reached : (u : ℕ) (b : Rec) → any (eqb u) (reached ms b) ≡ reaches (used ms) u b
  unfolding reached reaches any
  has-reached u b = step (to_group b)
    where
      last : (a : Bool) → (a || false) ≡ a
      last true = refl
      last false = refl

      step : (w : Bool) → any (eqb u) (cond w (members_of ms (bound_group b)) (bind_to b ∷ []))
          ≡ cond w (any (λ x. eqb (member_group x).0 (bound_group b).0 & eqb (member_number x) u) (used ms)) (eqb (bind_to b) u)
      step true = has-members u (bound_group b)
      step false = last (eqb u (bind_to b)) ∙ eqb_turn u (bind_to b)

reaches_agree : (ms l : List Rec) → Agree ms l → (u : ℕ) (b : Rec) → reaches (used ms) u b ≡ reaches l u b
unfolding reaches
reaches_agree ms l a u b = ap (λ w. cond (to_group b) w (eqb (bind_to b) u)) (agree_any ms l a _)

module _ (L₀ L : Lent) (h : List Event) (k : Held L₀ L h) where
  binds : Agree (tables L Binds) (standing Binds h)
  unfolding has_page
  binds = k.pages Binds refl

  pub members : Agree (tables L Members) (standing Members h)
  unfolding has_page
  members = k.pages Members refl

  devices : Agree (tables L Devices) (standing Devices h)
  unfolding has_page
  devices = k.pages Devices refl

  abbrev listed : Fields → List ℕ
  listed f = recipients (tables L Binds) (tables L Members) BindAddress f

  module _ (m : List ℕ) (o : octet_string m ≡ true) where
    abbrev f : Fields
    f = fields m

    -- the tables compare fields, the history numbers
    same-bind : (u : ℕ) (b : Rec) → shaped (size Binds) b ≡ true
        → (bind_matches f b && any (eqb u) (reached (tables L Members) b)) ≡ (made_for f b && reaches (standing Members h) u b)
    same-bind u b s =
        rw (
          made_for_lem m o b s,
          has-reached (tables L Members) (shaped-records (size Members) L.members (k.sane.octets Members)) u b,
          reaches_agree (tables L Members) _ members u b,
        )

    has-recipients : (u : ℕ) → has u (listed f) ≡ (not (eqb u (sender f)) & linked h f u)
    unfolding recipients bound linked has ◌&◌
    has-recipients u =
        has-ordered u _
        ∙ has-without u (sender f) _
        ∙ ap (λ w. not (eqb u (sender f)) && w)
        (any-flat_map (eqb u) (reached (tables L Members)) (keep (bind_matches f) (used (tables L Binds)))
        ∙ any-keep (λ b. any (eqb u) (reached (tables L Members) b)) (bind_matches f) (used (tables L Binds))
        ∙ any_alike (shaped (size Binds)) _ (λ b. made_for f b && reaches (standing Members h) u b) (same-bind u) (used (tables L Binds))
        (all-used (shaped (size Binds)) (tables L Binds) (shaped-records (size Binds) L.binds (k.sane.octets Binds)))
        ∙ agree_any (tables L Binds) _ binds _)

    rising-recipients : rising (listed f) ≡ true
    unfolding recipients
    rising-recipients = rising-ordered _

    -- the recipients are exactly the linked units, and there is one such list
    pub exactly_recipients : Exactly h f (listed f)
    exactly_recipients = record { order = rising-recipients; exact = has-recipients }

    pub recipients-only : (us : List ℕ) → Exactly h f us → listed f ≡ us
    recipients-only us x = rising_unique _ us rising-recipients x.order (λ u. has-recipients u ∙ sym (x.exact u))

  pub exists : (d : DeviceAddress) (u : ℕ) → unit_exists (tables L Devices) d u ≡ existing h d u
  unfolding unit_exists existing has_unit
  exists d u =
      ap (λ w. cond (eqb d.0 0) (eqb u 0) w)
      (any_alike (shaped (size Devices)) _ (λ x. eqb (device_address x).0 d.0 & in_set u (device_units x))
      (λ x s. rw (addressed-word (size Devices) d.0 x (omega arith) s)) (used (tables L Devices))
      (all-used (shaped (size Devices)) (tables L Devices) (shaped-records (size Devices) L.devices (k.sane.octets Devices)))
      ∙ agree_any (tables L Devices) _ devices _)
