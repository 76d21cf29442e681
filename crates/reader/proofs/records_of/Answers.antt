-- The reader walks from count to count.
use Rattle.std.proofs.Common.{ap, ◌∙◌, ℕ, List, Bor, arith}
use Rattle.reader.specs.declared.Reader.{Reader}
use Rattle.reader.proofs.Laws.{count_first, place_low, reader_next, reader_found}
use Rattle.reader.proofs.records_of.Goals as goal

pub loop-i-init : goal.loop-i-init
loop-i-init c = (omega arith, ap (λ (b : Bor (List ℕ)). b.now) c.reader_at-reader.ensures.0, c.reader_at-reader.ensures.1 ∙ count_first c.args.table.now)

pub next-reader-requires : goal.next-reader-requires
next-reader-requires c = (place_low c.args.table.now c.loop-i.i c.loop-i.reader.at (omega (arith, c.requires.0)) c.loop-i.invariant.2 c.requires.1, c.record_size.ensures.1)

pub loop-i-preserved : goal.loop-i-preserved
loop-i-preserved c =
    let l = c.loop-i in
    let e = c.next-reader.ensures in (
      omega arith,
      ap (λ (r : Reader). r.table.now) e ∙ l.invariant.1,
      reader_next c.args.table.now l.reader.table.now l.i l.reader.at c.record_size.result c.next-reader.result.at l.invariant.1 l.invariant.2 (ap (λ (r : Reader). r.at) e) c.record_size.ensures.0,
    )

pub records-requires : goal.records-requires
records-requires c = (place_low c.args.table.now c.loop-i.i c.loop-i.reader.at (omega (arith, c.loop-i.invariant.0, c.requires.0)) c.loop-i.invariant.2 c.requires.1, c.record_size-2.ensures.1)

pub returns : goal.returns
returns c =
    let l = c.loop-i in
    reader_found c.args.table.now l.reader.table.now l.i c.args.k l.reader.at c.record_size-2.result c.records.result l.invariant.1 (omega (arith, l.invariant.0)) l.invariant.2 c.records.ensures c.requires.0 c.record_size-2.ensures.0
