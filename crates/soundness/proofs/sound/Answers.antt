-- What `sound` returns: one table after the other, as many as there are.
use Rattle.words.specs.Basics.{◌≡◌, Bool, ◌&&◌, List, [], ◌∷◌}
use Rattle.rules.specs.Lists.{all}
use Rattle.rules.specs.Frame.{every_table}
use Rattle.rules.specs.Sound.{sound}
use Rattle.rules.proofs.Lists.{and-true}
use Rattle.soundness.proofs.sound.Goals as goal

and-all : {A : Type 0} (p : A → Bool) (x : A) (xs : List A) {b r : Bool} → b ≡ p x → r ≡ all p xs → (b && r) ≡ all p (x ∷ xs)
unfolding all
and-all p x xs e f = rw (e, f)

last-all : {A : Type 0} (p : A → Bool) (x : A) {b : Bool} → b ≡ p x → b ≡ all p (x ∷ [])
unfolding all
last-all p x e = rw (e, and-true _)

pub returns : goal.returns
unfolding sound every_table
returns c = search (and-all, last-all) depth 32
