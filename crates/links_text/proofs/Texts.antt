-- The text for an input is the text of the answer to the tables and the message in it, and its reason that answer's.
use Rattle.std.specs.Prelude.{Option, None, Result}
use Rattle.words.specs.Basics.{◌≡◌, sym, ap, ◌∙◌, List, ℕ, ◌+◌, ◌<◌, ◌≤◌, arith, length, take, drop, replicate, length-drop, length-replicate, length-take-le}
use Rattle.words.specs.Basics.{lt-ltb, le-ltb}
use Rattle.rules.specs.Types.{Devices, Binds, Groups, Members, Sessions, Outcome, Reason, Refusal, Told}
use Rattle.rules.specs.Tables.{free}
use Rattle.rules.specs.Octets.{over}
use Rattle.words.specs.Names.{longest}
use Rattle.rules.specs.Layout.{full}
use Rattle.rules.specs.Frame.{Lent, lent}
use Rattle.rules.specs.Calls.{Answer, telling, message}
use Rattle.rules.proofs.ReadAs.{telling-reply, telling-list}
use Rattle.units.proofs.Listing.{over-whole}
use Rattle.report.specs.Text.{answer_text, short_text}
use Rattle.links_text.specs.Printing.{at_binds, at_groups, at_members, all_tables, list_length, given, answered, printed, reasoned}

pub short_text_lem : (s : List ℕ) → length s < all_tables → short_text ≡ printed s
unfolding printed
short_text_lem s h = rw (lt-ltb (length s) all_tables h)

pub short_reason : (s : List ℕ) → length s < all_tables → None ≡ reasoned s
unfolding reasoned
short_reason s h = rw (lt-ltb (length s) all_tables h)

-- a table copied over as many zeros
copied : (n at : ℕ) (s : List ℕ) → at + n ≤ length s → over (take n (drop at s)) (replicate n 0) ≡ take n (drop at s)
copied n at s h = over-whole (take n (drop at s)) (replicate n 0) (length-take-le n (drop at s) (rw length-drop (omega arith)) ∙ sym (length-replicate n 0))

pub answer_text_lem : (s ds bs gs ms q : List ℕ) (t : Result Told Refusal) {o : Outcome} {f : Option Reason} (L : Lent) (r l : List ℕ) → all_tables ≤ length s
    → ds ≡ over (take (full Devices) s) (replicate (full Devices) 0)
    → bs ≡ over (take (full Binds) (drop at_binds s)) (replicate (full Binds) 0)
    → gs ≡ over (take (full Groups) (drop at_groups s)) (replicate (full Groups) 0)
    → ms ≡ over (take (full Members) (drop at_members s)) (replicate (full Members) 0)
    → q ≡ drop all_tables s
    → o ≡ (telling t L r l).outcome → f ≡ (telling t L r l).reason → telling t L r l ≡ message (lent ds bs gs ms (replicate (full Sessions) free)) q (replicate longest 0) (replicate list_length 0)
    → (answer_text o r l ≡ printed s) × (f ≡ reasoned s)
unfolding printed reasoned answered given
answer_text_lem s ds bs gs ms q t {o} {f} L r l h d b g m e u v a =
    let a' : telling t L r l ≡ answered s =
    rw (
      e,
      d,
      b,
      g,
      m,
      copied (full Devices) 0 s (omega arith),
      copied (full Binds) at_binds s (omega arith),
      copied (full Groups) at_groups s (omega arith),
      copied (full Members) at_members s (omega arith),
    ) at a in (
      rw (
        le-ltb (length s) all_tables h,
        u ∙ ap (λ (x : Answer). x.outcome) a',
        sym (telling-reply t L r l) ∙ ap (λ (x : Answer). x.reply) a',
        sym (telling-list t L r l) ∙ ap (λ (x : Answer). x.list) a',
      ),
      rw (le-ltb (length s) all_tables h) (v ∙ ap (λ (x : Answer). x.reason) a'),
    )
