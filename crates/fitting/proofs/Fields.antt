-- Laws of the padding behind a name.
use Rattle.words.specs.Basics.{◌≡◌, ◌∙◌, Bool, true, List, ℕ, ◌+◌, ◌-◌, ◌<◌, ◌≤◌, arith, eqb, length, take, drop, length-drop, drop_of_length-le, take_all}
use Rattle.rules.specs.Lists.{all}
use Rattle.rules.specs.Layout.{name_length}

-- past the name there is nothing, or what was tested
pub padding_none : (t : List ℕ) → length t < 3 + name_length t → true ≡ all (λ o. eqb o 0) (drop (3 + name_length t) t)
unfolding all
padding_none t h =
    let p : length t ≤ 3 + name_length t = omega arith in
    rw (drop_of_length-le t p)

pub padding_rest : (t : List ℕ) {b : Bool} → b ≡ all (λ o. eqb o 0) (take (length t - (3 + name_length t)) (drop (3 + name_length t) t))
    → b ≡ all (λ o. eqb o 0) (drop (3 + name_length t) t)
padding_rest t h = h ∙ rw (take_all (length t - (3 + name_length t)) (drop (3 + name_length t) t) (rw length-drop (omega arith)))
