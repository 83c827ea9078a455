-- `entries::write_entries` meets its contract.
use Rattle.std.proofs.Common.{rules, tests}
use Rattle.std.proofs.lemmas.Iterator.{YieldsList-from_take}
use Rattle.std.proofs.lemmas.Iterator.Adapters.{YieldsList-from_skip, serves_from_places}
use Rattle.std.proofs.lemmas.Iterator.Consumers.{YieldsList-at, YieldsList-from_filter}
use Rattle.words.specs.Basics.{ap, ◌∙◌, not, arith}
use Rattle.rules.specs.Tables.{is_free, matches}
use Rattle.rules.proofs.Entries.{chosen-few}
use Rattle.records.proofs.Walks.{records-yielded}
use Rattle.entries.proofs.Entering.{chosen_is, used-whole, chosen-each, chosen-short, entering_start, entering_more, entering_end, entering_few}
use Rattle.entries.proofs.write_entries.Goals as goal

-- the test of a bind's octets asks that the bind is whole
pub loop-entry-init-derived : goal.loop-entry-init-derived
loop-entry-init-derived c =
    let all = records-yielded 8 c.args.binds.now (omega arith) c.chunks_exact.ensures.rest c.chunks_exact.ensures.size in
    let taken = ap (λ z. z.iter.iter) c.into_iter-entry-iterator.ensures.into_iter_gives in
    let tested = ap (λ z. z.iter) c.take-chosen.ensures.source in (
      (
        (search (rules, tests), tt, search (rules, tests)),
        tt,
        serves_from_places
            (YieldsList-at (taken ∙ tested ∙ c.filter-2.ensures.source)
            (YieldsList-from_skip _
            (YieldsList-at c.skip.ensures.source
            (YieldsList-from_filter _ (λ r. not (is_free r)) (YieldsList-at c.filter.ensures.source all)
            c.filter.ensures.closure (λ x b q k. search (rules, tests))))
            c.skip.ensures.count))
            (λ x q k. search (rules, tests)) (λ x k l h. let w = used-whole 8 c.args.index c.args.binds.now x.now l h in search (rules, tests)),
      ),
      tt,
    )

pub loop-entry-init : goal.loop-entry-init
unfolding matches
loop-entry-init c =
    let a = c.args in
    let all = records-yielded 8 a.binds.now (omega arith) c.chunks_exact.ensures.rest c.chunks_exact.ensures.size in
    entering_start
    (YieldsList-at c.into_iter-entry-iterator.ensures.into_iter_gives
    (YieldsList-from_take _
    (YieldsList-at c.take-chosen.ensures.source
    (YieldsList-from_filter _ (matches a.from a.want.now)
    (YieldsList-at c.filter-2.ensures.source
    (YieldsList-from_skip _
    (YieldsList-at c.skip.ensures.source
    (YieldsList-from_filter _ (λ r. not (is_free r)) (YieldsList-at c.filter.ensures.source all) c.filter.ensures.closure (λ x b q k. search (rules, tests))))
    c.skip.ensures.count))
    c.filter-2.ensures.closure (λ x b q k. search (rules, tests))))
    c.take-chosen.ensures.count))
    (chosen_is _ _ _ _)
    (chosen-each 8 a.index a.binds.now a.most (matches a.from a.want.now))

pub overflow_mul-count : goal.overflow_mul-count
overflow_mul-count c =
    omega (arith, entering_few c.loop-entry.invariant c.next.new.self c.args.most c.in-Some.ensures.steps (chosen-few _ _ _ _))

pub write_at-requires : goal.write_at-requires
write_at-requires c =
    let i = c.loop-entry.invariant in
    let l = (entering_more i c.next.new.self c.in-Some.ensures.steps).0 in
    omega (arith, l, entering_few i c.next.new.self c.args.most c.in-Some.ensures.steps (chosen-few _ _ _ _), i.same)

pub overflow_add-count : goal.overflow_add-count
overflow_add-count c =
    omega (arith, entering_few c.loop-entry.invariant c.next.new.self c.args.most c.in-Some.ensures.steps (chosen-few _ _ _ _))

pub loop-entry-preserved : goal.loop-entry-preserved
loop-entry-preserved c = rw c.write_at.ensures (entering_more c.loop-entry.invariant c.next.new.self c.in-Some.ensures.steps).2

pub returns : goal.returns
returns c =
    entering_end c.loop-entry.invariant c.next.new.self c.in-None.ensures.steps
    (omega (arith, chosen-short 8 c.args.index c.args.binds.now c.args.most (matches c.args.from c.args.want.now)))
