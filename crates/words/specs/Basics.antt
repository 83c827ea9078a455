-- The names of the libraries that most files use, passed on, so that a file brings them by one line.
pub use Rattle.std.specs.Prelude.{◌≡◌, refl, Bool, true, false, cond, not, ◌&&◌, ◌||◌, List, [], ◌∷◌, ◌++◌, map, ℕ, zero, suc, ◌+◌, ◌-◌, ◌*◌, ◌/◌, ◌%◌, ◌^◌, ◌<◌, ◌≤◌, min, max, eqb, leb, ltb, length, take, drop, replicate, get_or, set}
pub use Rattle.std.proofs.Common.{sym, ap, ◌∙◌, append-nil, append_assoc, arith, length-drop, length-append, drop_of_length-le, length-set, length-take, take-append-drop, length-take-le, take_all, drop_at, drop-cons, drop-drop, get_or-drop, eq-eqb, ne_eqb, eqb-true, leb-true, leb-false, le-leb, lt-ltb, le-ltb, ltb-true, ltb-false, rules}
pub use Rattle.std.proofs.lemmas.Bool.{false≢true, not-true, not-false, eqb-false, lt-leb}
pub use Rattle.std.proofs.Math.Bool.{or-false, or-true}
unfoldable pub use mathlib.Core.List.{flat_map}
pub use Rattle.std.proofs.lemmas.List.{length-map, length-replicate}
pub use Rattle.std.proofs.lemmas.List.Edits.{sets, sets-eq}
pub use Rattle.std.proofs.Math.Seq.{drop-length, length-sets}
