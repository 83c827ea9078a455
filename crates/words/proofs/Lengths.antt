-- What a call answered is known from the outcome that it is, whether the call tells a length or none.
use mathlib.Core.Path.{◌≡◌, refl, sym, ap, ◌∙◌}
use Prim.Native.Nat.{ℕ}
use Rattle.std.specs.Prelude.{⊤, Result, Ok, Err}
use Rattle.words.specs.Outcomes.{Outcome, without_length, with_length}
use Rattle.words.specs.declared.Accepted.TheVariants.{Done, Forwarded, Nobody}
use Rattle.words.specs.declared.Refusal.{Refusal}

unfoldable untold : Outcome → Result ⊤ Refusal
untold (Ok x) = Ok tt
untold (Err why) = Err why

untold_lem : (a : Result ⊤ Refusal) → untold (without_length a) ≡ a
unfolding untold
untold_lem (Ok x) = refl
untold_lem (Err why) = refl

pub without_length-once : (a b : Result ⊤ Refusal) → without_length a ≡ without_length b → a ≡ b
without_length-once a b e = sym (untold_lem a) ∙ ap untold e ∙ untold_lem b

unfoldable told : Outcome → Result ℕ Refusal
told (Ok (Done n)) = Ok n
told (Ok (Forwarded n)) = Ok 0
told (Ok Nobody) = Ok 0
told (Err why) = Err why

told_lem : (a : Result ℕ Refusal) → told (with_length a) ≡ a
unfolding told
told_lem (Ok n) = refl
told_lem (Err why) = refl

pub with_length-once : (a b : Result ℕ Refusal) → with_length a ≡ with_length b → a ≡ b
with_length-once a b e = sym (told_lem a) ∙ ap told e ∙ told_lem b
