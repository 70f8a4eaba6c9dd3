use Rattle.std.proofs.Common.{◌≡◌, ℕ, List, [], ◌++◌, take, drop, refl, sym, subst, ap, ◌∙◌, arith}
use Rattle.std.proofs.Common.{append-nil}
use Rattle.std.proofs.lemmas.List.{length-take, take-append-le}
use Rattle.std.proofs.lemmas.Result.{err_from_is_err_and}
use Rattle.std.specs.Io.KnownBytes.{Consumes}
use Rattle.console_lines.specs.Lines.{open_line}
use Rattle.console_lines.proofs.Written.{consumes_kept, consumes_nothing, consumes_then}
use Rattle.run_console.specs.Until.{ends_at}
use Rattle.run_console.proofs.LineSteps.{same_asked, same_end}
use Rattle.run_console.proofs.Parts.{part_begins, part_then, part_written}
use Rattle.run_console.proofs.Wholes.{few_before, is_clean, part_read, ran_to_end, reads_all}
use Rattle.run_console.proofs.Wholes.{reads_to_rejected, stops_at_last, stops_after_part}
use Rattle.run_console.proofs.Wholes.{stops_in_a_part, stops_reading}
use Rattle.run_console.proofs.line_inputs.run_lines.Goals as goal

pub loop-total-init : goal.loop-total-init
loop-total-init g c =
    let none : c.new-tail.result.items ≡ [] = cc in (
      [],
      consumes_nothing _,
      refl,
      omega arith,
      part_begins refl none,
      c.requires.buffer,
      c.requires.sound,
    )

-- ---- the input is read

pub returns-in-Err-clause-stops : goal.returns-in-Err-clause-stops
returns-in-Err-clause-stops g c =
    let inv = c.loop-total.invariant in
    let r0 = g.R.Read.remaining c.args.input.now in
    let r2 = g.R.Read.remaining c.read.new.self in
    let P : List ℕ → Type 0 = λ x. Consumes r0 r2 x in
    stops_reading (subst P (append-nil inv.0)
    (consumes_then r0 _ r2 inv.0 [] inv.1 (consumes_kept _ r2 c.in-Err.ensures.bytes)))
    inv.4 (omega (arith, inv.2, c.loop-total-test.true), refl) (λ l. refl) (λ l. tt) (λ h. h)
    (λ l. refl)

pub returns-clause-stops : goal.returns-clause-stops
returns-clause-stops g c =
    let inv = c.loop-total.invariant in
    stops_reading inv.1 inv.4 (omega (arith, inv.2, inv.3, c.loop-total-test.false), refl)
    (λ l. refl) (λ l. tt) (λ h. h) (λ l. refl)

-- ---- the last line

pub returns-in_err-why-clause-stops : goal.returns-in_err-why-clause-stops
returns-in_err-why-clause-stops g c =
    let p = err_from_is_err_and c.from_residual.result
    c.from_residual.ensures.1 in
    let inv = c.loop-total.invariant in
    let r1 = g.R.Read.remaining c.loop-total.input in
    let r2 = g.R.Read.remaining c.read.new.self in
    let P : ℕ → Type 0 = λ n. Consumes r1 r2 (take n c.read.new.buf) in
    let reads =
    reads_all r1 inv.1 (subst P c.if-count-eq0.true c.in-Ok.ensures.bytes.0)
    (c.in-Ok.ensures.bytes.1 c.if-count-eq0.true
    (grind (
      arith,
      length-take,
      c.read.auto.buf,
      c.min-most.ensures,
      c.loop-total-test.true,
    )))
    (omega (arith, inv.2, c.loop-total-test.true)) inv.4 in
    let last = open_line [] reads.bytes in
    let asks = same_asked last c.loop-total.tail.items c.as_slice.result.now
    c.as_slice.ensures.value reads.part.tail_is in
    rw (p.1, p.2) (stops_at_last reads inv.5 (c.in_err-why.ensures.cut last asks))

pub returns-then-count-eq0-clause-ran : goal.returns-then-count-eq0-clause-ran
returns-then-count-eq0-clause-ran g c =
    let inv = c.loop-total.invariant in
    let r1 = g.R.Read.remaining c.loop-total.input in
    let r2 = g.R.Read.remaining c.read.new.self in
    let P : ℕ → Type 0 = λ n. Consumes r1 r2 (take n c.read.new.buf) in
    let reads =
    reads_all r1 inv.1 (subst P c.if-count-eq0.true c.in-Ok.ensures.bytes.0)
    (c.in-Ok.ensures.bytes.1 c.if-count-eq0.true
    (grind (
      arith,
      length-take,
      c.read.auto.buf,
      c.min-most.ensures,
      c.loop-total-test.true,
    )))
    (omega (arith, inv.2, c.loop-total-test.true)) inv.4 in
    let last = open_line [] reads.bytes in
    let tail = c.loop-total.tail.items in
    let kept = c.as_slice.ensures.value in
    let asks = same_asked last tail c.as_slice.result.now kept reads.part.tail_is in
    let ends = same_end last tail c.as_slice.result.now kept reads.part.tail_is in
    ran_to_end c.ends_at.result reads inv.5 (c.in_ok-why.ensures.ran last asks)
    (c.ends_at.ensures ∙ ap (ends_at c.args.until) (c.in_ok-why.ensures.rejected last asks ends))
    c.numbered.ensures

-- ---- a part is run

pub loop-total-preserved : goal.loop-total-preserved
loop-total-preserved g c =
    let inv = c.loop-total.invariant in
    let n = c.in-Ok.count in
    let room = c.read.new.buf in
    let few = c.in-Ok.ensures.bound.0 in
    let here = take-append-le n room (drop c.min-most.result c.loop-total.room) few in
    let ran = rw (here, inv.5) at (c.in_ok-found.ensures.ran (open_line [] inv.0) inv.4.tail_is) in
    let size = part_read inv.0 room c.loop-total.room n c.min-most.result c.loop-total.total 4096
    inv.2 few c.read.auto.buf c.min-most.ensures c.loop-total-test.true in (
      inv.0 ++ take n room,
      consumes_then _ _ _ inv.0 (take n room) inv.1 c.in-Ok.ensures.bytes.0,
      omega (arith, size.len, inv.2),
      omega (arith, size.len, size.within, inv.2),
      part_written
          (part_then inv.4
          (is_clean c.in_ok-found.found (sym c.is_some.ensures ∙ c.if-is_some.false) ran))
          c.in_ok-write_out.ensures.whole,
      c.in_ok-write_out.ensures.none,
      c.in_ok-found.ensures.sound,
    )

pub returns-then-is_some-clause-ran : goal.returns-then-is_some-clause-ran
returns-then-is_some-clause-ran g c =
    let inv = c.loop-total.invariant in
    let n = c.in-Ok.count in
    let room = c.read.new.buf in
    let few = c.in-Ok.ensures.bound.0 in
    let here = take-append-le n room (drop c.min-most.result c.loop-total.room) few in
    let ran = rw (here, inv.5) at (c.in_ok-found.ensures.ran (open_line [] inv.0) inv.4.tail_is) in
    let size = part_read inv.0 room c.loop-total.room n c.min-most.result c.loop-total.total 4096
    inv.2 few c.read.auto.buf c.min-most.ensures c.loop-total-test.true in
    reads_to_rejected c.in_ok-found.found c.run_part.new.number (take n room)
    c.run_part.new.tail.items
    c.run_part.new.buffer.items c.run_part.new.book (g.R.Read.remaining c.args.input.now)
    (g.R.Read.remaining c.loop-total.input) (g.R.Read.remaining c.read.new.self)
    (g.W.Write.contents c.run_part.new.output) (sym c.is_some.ensures ∙ c.if-is_some.true) inv.1
    c.in-Ok.ensures.bytes.0 size.within size.few inv.4 ran

-- ---- a part that stops

pub returns-in_err-found-clause-stops : goal.returns-in_err-found-clause-stops
returns-in_err-found-clause-stops g c =
    let p = err_from_is_err_and c.from_residual-in_err-found.result
    c.from_residual-in_err-found.ensures.1 in
    let inv = c.loop-total.invariant in
    let n = c.in-Ok.count in
    let room = c.read.new.buf in
    let few = c.in-Ok.ensures.bound.0 in
    let here = take-append-le n room (drop c.min-most.result c.loop-total.room) few in
    let cut = rw (here, inv.5) at (c.in_err-found.ensures.cut (open_line [] inv.0) inv.4.tail_is) in
    let size = part_read inv.0 room c.loop-total.room n c.min-most.result c.loop-total.total 4096
    inv.2 few c.read.auto.buf c.min-most.ensures c.loop-total-test.true in
    rw (p.1, p.2) (
    stops_in_a_part (g.R.Read.remaining c.loop-total.input) inv.1 c.in-Ok.ensures.bytes.0
    size.within size.few inv.4 cut)

pub returns-in_err-write_out-clause-stops : goal.returns-in_err-write_out-clause-stops
returns-in_err-write_out-clause-stops g c =
    let p = err_from_is_err_and c.from_residual-in_err-write_out.result
    c.from_residual-in_err-write_out.ensures.1 in
    let inv = c.loop-total.invariant in
    let n = c.in-Ok.count in
    let room = c.read.new.buf in
    let few = c.in-Ok.ensures.bound.0 in
    let here = take-append-le n room (drop c.min-most.result c.loop-total.room) few in
    let ran = rw (here, inv.5) at (c.in_ok-found.ensures.ran (open_line [] inv.0) inv.4.tail_is) in
    let size = part_read inv.0 room c.loop-total.room n c.min-most.result c.loop-total.total 4096
    inv.2 few c.read.auto.buf c.min-most.ensures c.loop-total-test.true in
    rw (p.1, p.2, c.in_err-write_out.ensures.fault) (
    stops_after_part (g.R.Read.remaining c.loop-total.input) inv.1 c.in-Ok.ensures.bytes.0
    size.within inv.4
    (is_clean c.in_ok-found.found (sym c.is_some.ensures ∙ c.if-is_some.false) ran)
    c.in_err-write_out.ensures.cut)

pub run_part-requires-clause-number : goal.run_part-requires-clause-number
run_part-requires-clause-number g c =
    let inv = c.loop-total.invariant in
    let n = c.in-Ok.count in
    let few = few_before inv.4 in
    let size = length-take n (c.read.new.buf ++ drop c.min-most.result c.loop-total.room) in
    omega (arith, few, size, inv.2, inv.3)
