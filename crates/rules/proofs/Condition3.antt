-- Condition 3: from free tables of sizes allowed, after any run of calls, refused ones included, a well-formed request to the bind address goes to
-- exactly the units linked to its sender by history, and Get Group Info counts the members that stand by history.
use Rattle.std.specs.Prelude.{Some}
use Rattle.words.specs.Basics.{◌≡◌, ap, ◌∙◌, true, List, ℕ, ◌+◌}
use Rattle.rules.specs.Types.{Fields, BindAddress, GetGroupInfo, Devices, Binds, Members}
use Rattle.rules.specs.Lists.{ask, ◌&◌}
use Rattle.rules.specs.Octets.{octet, word, octet_string}
use Rattle.rules.specs.Frame.{Lent, tables}
use Rattle.rules.specs.Message.{fields, payload, reads}
use Rattle.rules.specs.Exists.{unit_exists}
use Rattle.rules.specs.Recipients.{recipients}
use Rattle.rules.specs.Payloads.{command, group_named}
use Rattle.rules.specs.Calls.{roomy, way_to, way_on, way, forwarded, follow, message}
use Rattle.rules.specs.History.{sends, said, after, Event, history, granted, counted, Request, Exactly, member_count, group_said, Condition3}
use Rattle.rules.proofs.Numbers.{group_said_lem}
use Rattle.rules.proofs.Standing.{Agree}
use Rattle.rules.proofs.Granted.{info-granted}
use Rattle.rules.proofs.Steps.{granted-reply, octets-payload}
use Rattle.rules.proofs.Run.{Held, same-room, held_run}
use Rattle.rules.proofs.Links.{members, exists, exactly_recipients, recipients-only}
use Rattle.rules.proofs.Counts.{info-count}

module _ (L₀ L : Lent) (h : List Event) (k : Held L₀ L h) where
  delivered : (m r l us : List ℕ) → Request h m → roomy L₀.binds L₀.members r l ≡ true → Exactly h (fields m) us → message L m r l ≡ forwarded us L r l
  unfolding message follow way reads way_on ask way_to ◌&◌
  delivered m r l us q e x =
      let f : Fields = fields m in
      let is : unit_exists (tables L Devices) f.source f.source_unit ≡ true = exists L₀ L h k f.source f.source_unit ∙ q.sent in
      rw (same-room k r l ∙ e, k.sane.sound, q.length, q.told_length, q.type, is, q.request, q.to_bind_address)
      (ap (λ us. forwarded us L r l) (recipients-only L₀ L h k m q.octets us x))

  counted-right : (m r l : List ℕ) → octet_string m ≡ true → command (fields m) ≡ Some GetGroupInfo → granted (sends m r l) (said L (sends m r l)) ≡ true
      → member_count (said L (sends m r l)) ≡ counted h (group_said (payload m))
  unfolding member_count said counted Agree
  counted-right m r l o c g =
      let a = granted-reply L m r l GetGroupInfo c g in
      ap (λ (p : List ℕ). word (2 + octet 1 p) p) a.says
      ∙ info-count L (group_named (payload m)) k.sane (info-granted (tables L) (fields m).source (payload m) a.judged) a.rest
      ∙ members L₀ L h k _
      ∙ ap (counted h) (group_said_lem (payload m) (octets-payload m o))

pub condition3 : Condition3
condition3 L f cs o =
    let k = held_run L f cs o in
    record {
      sound = k.sane.sound;
      delivered = delivered L (after L cs) (history L cs) k;
      linked-units = λ m o. (
        recipients (tables (after L cs) Binds) (tables (after L cs) Members) BindAddress (fields m),
        exactly_recipients L (after L cs) (history L cs) k m o,
      );
      counts = counted-right L (after L cs) (history L cs) k;
    }
