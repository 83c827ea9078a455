-- Laws of the decoder: one command after the other, and the checks that stand before a command's number.
use Rattle.std.specs.Prelude.{Option, None, Some}
use Rattle.words.specs.Basics.{◌≡◌, Bool, cond, ◌<◌, ◌≤◌, eq-eqb, ne_eqb, le-leb, lt-leb}
use Rattle.words.specs.Names.{command_type, asking_type, flag_set, bind_management, group_management}
use Rattle.rules.specs.Types.{Command, Fields}
use Rattle.rules.specs.Lists.{ask, ◌&◌}
use Rattle.rules.specs.Payloads.{bind_command, group_command, command}

-- a command, or else what the members behind it say
pub then_rest : (b : Bool) (k : Command) (r s t : Option Command) → r ≡ cond b (Some k) s → s ≡ t → r ≡ cond b (Some k) t
then_rest b k r s t p q = cc

-- a type below those of commands, and one above them

pub type_below : (f : Fields) → f.message_type < command_type → command f ≡ None
unfolding command ask ◌&◌
type_below f t = simp (lt-leb _ _ t)

pub type_above : (f : Fields) → command_type ≤ f.message_type → asking_type < f.message_type → command f ≡ None
unfolding command ask ◌&◌
type_above f l t = simp (le-leb _ _ l, lt-leb _ _ t)

-- a command's type, to a client interface
pub to_client : (f : Fields) → command_type ≤ f.message_type → f.message_type ≤ asking_type → (f.interface_type ≡ flag_set → ⊥) → command f ≡ None
unfolding command ask ◌&◌
to_client f l h i = simp (le-leb _ _ l, le-leb _ _ h, ne_eqb _ _ i)

-- a command's type, to a server interface: of binds, of groups, or of neither
module _ (f : Fields) (l : command_type ≤ f.message_type) (h : f.message_type ≤ asking_type) (i : f.interface_type ≡ flag_set) where
  pub of_binds : f.uid ≡ bind_management → command f ≡ bind_command f.member
  unfolding command ask ◌&◌
  of_binds u = simp (le-leb _ _ l, le-leb _ _ h, eq-eqb _ _ i, eq-eqb _ _ u)

  pub of_groups : (f.uid ≡ bind_management → ⊥) → f.uid ≡ group_management → command f ≡ group_command f.member
  unfolding command ask ◌&◌
  of_groups b u = simp (le-leb _ _ l, le-leb _ _ h, eq-eqb _ _ i, ne_eqb _ _ b, eq-eqb _ _ u)

  pub of_neither : (f.uid ≡ bind_management → ⊥) → (f.uid ≡ group_management → ⊥) → command f ≡ None
  unfolding command ask ◌&◌
  of_neither b g = simp (le-leb _ _ l, le-leb _ _ h, eq-eqb _ _ i, ne_eqb _ _ b, ne_eqb _ _ g)

-- each of the checks of `command`
pub ruleset checks = (type_below, type_above, to_client, of_binds, of_groups, of_neither)
