use Rattle.std.proofs.Common.{◌≡◌, ◌+◌, ◌≤◌, List, ℕ, length, arith, subst, Err}
use Rattle.trace_text.specs.Jobs.{input_limit}
use Rattle.trace_text.specs.declared.trace_faults.TraceFault.TheVariants.{TooLong}
use Rattle.trace_text.proofs.ReadResults.{Answers, Known, bounded, known, known_long, stops, stops_early}
use Rattle.trace_text.proofs.reading.read_trace.Given.{Over}
use Rattle.trace_text.proofs.reading.read_trace.Goals as goal

-- one byte more was read than an input may have
one_more : (g : Over) (c : goal.After-drop-input g)
    → length c.in_ok-input.input.items ≡ input_limit + 1
one_more g c = omega (arith, c.in_ok-input.input.ok.0, c.in_ok-input.ensures.within)

long_known : (g : Over) (c : goal.After-drop-input g)
    → Known (Err TooLong) (g.S.Source.left c.args.source.now)
long_known g c =
    known_long (g.S.Source.left c.args.source.now) (g.S.Source.left c.input_of.new.source)
    c.in_ok-input.input.items (one_more g c) c.in_ok-input.ensures.read

pub returns-then-len-gt-INPUT_LIMIT-clause-complete
    : goal.returns-then-len-gt-INPUT_LIMIT-clause-complete
returns-then-len-gt-INPUT_LIMIT-clause-complete g c = (long_known g c).complete

pub returns-then-len-gt-INPUT_LIMIT-clause-long : goal.returns-then-len-gt-INPUT_LIMIT-clause-long
returns-then-len-gt-INPUT_LIMIT-clause-long g c = (long_known g c).long

pub returns-then-len-gt-INPUT_LIMIT-clause-too_long
    : goal.returns-then-len-gt-INPUT_LIMIT-clause-too_long
returns-then-len-gt-INPUT_LIMIT-clause-too_long g c = (long_known g c).too_long

pub returns-then-len-gt-INPUT_LIMIT-clause-wrong : goal.returns-then-len-gt-INPUT_LIMIT-clause-wrong
returns-then-len-gt-INPUT_LIMIT-clause-wrong g c = (long_known g c).wrong

pub returns-then-len-gt-INPUT_LIMIT-clause-bad_line
    : goal.returns-then-len-gt-INPUT_LIMIT-clause-bad_line
returns-then-len-gt-INPUT_LIMIT-clause-bad_line g c = (long_known g c).bad_line

pub returns-then-len-gt-INPUT_LIMIT-clause-stopped
    : goal.returns-then-len-gt-INPUT_LIMIT-clause-stopped
returns-then-len-gt-INPUT_LIMIT-clause-stopped g c =
    stops_early (g.S.Source.left c.args.source.now) (g.S.Source.left c.input_of.new.source)
    c.in_ok-input.input.items (one_more g c) c.in_ok-input.ensures.read

-- the input is not too long, and it is what was answered of
answered : (g : Over) (c : goal.After-drop-input-2 g)
    → Answers c.job_of.result c.in_ok-input.input.items
answered g c =
    subst (λ (i : List ℕ). Answers c.job_of.result i) c.deref.ensures.value c.job_of.ensures

short : (g : Over) (c : goal.After-drop-input-2 g)
    → length c.in_ok-input.input.items ≤ input_limit
short g c = omega (arith, c.in_ok-input.input.ok.0)

all_known : (g : Over) (c : goal.After-drop-input-2 g)
    → Known c.job_of.result (g.S.Source.left c.args.source.now)
all_known g c =
    known c.job_of.result (g.S.Source.left c.args.source.now)
    (g.S.Source.left c.input_of.new.source) c.in_ok-input.input.items (answered g c) (short g c)
    c.in_ok-input.ensures.read (c.in_ok-input.ensures.ended (omega (arith, short g c)))

pub returns-clause-job : goal.returns-clause-job
returns-clause-job g c = (all_known g c).job

pub returns-clause-complete : goal.returns-clause-complete
returns-clause-complete g c = (all_known g c).complete

pub returns-clause-long : goal.returns-clause-long
returns-clause-long g c = (all_known g c).long

pub returns-clause-too_long : goal.returns-clause-too_long
returns-clause-too_long g c = (all_known g c).too_long

pub returns-clause-wrong : goal.returns-clause-wrong
returns-clause-wrong g c = (all_known g c).wrong

pub returns-clause-bad_line : goal.returns-clause-bad_line
returns-clause-bad_line g c = (all_known g c).bad_line

pub returns-clause-bounds : goal.returns-clause-bounds
returns-clause-bounds g c = bounded c.job_of.result c.deref.result.now c.job_of.ensures

pub returns-clause-stopped : goal.returns-clause-stopped
returns-clause-stopped g c =
    stops c.job_of.result (g.S.Source.left c.args.source.now)
    (g.S.Source.left c.input_of.new.source) c.in_ok-input.input.items (answered g c) (short g c)
    c.in_ok-input.ensures.read (c.in_ok-input.ensures.ended (omega (arith, short g c)))
