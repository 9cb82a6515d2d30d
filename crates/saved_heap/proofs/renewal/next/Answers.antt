use Rattle.std.proofs.Common.{◌≡◌, rules, false, refl, subst}
use Rattle.never_heap.specs.declared.Reply.{Reply}
use Rattle.never_heap.specs.declared.Reply.TheVariants.{Full}
use Rattle.never_heap.specs.Histories.{is_full}
use Rattle.control_heap.specs.Controls.{HasAnswered}
use Rattle.control_heap.specs.graph_view.ShownGraph.{Goes}
use Rattle.saved_heap.proofs.Copied.{built_one, stayed, went}
use Rattle.saved_heap.proofs.renewal.next.Goals as goal

pub returns-in-Full-clause-stops : goal.returns-in-Full-clause-stops
returns-in-Full-clause-stops c =
    let told : HasAnswered c.args.heap.now c.args.command (Full c.in-Full.cycle) c.ask.new.heap =
    subst (λ (a : Reply). HasAnswered c.args.heap.now c.args.command a c.ask.new.heap) c.in-Full.is
    c.in-Ok.ensures.answered in
    let goes : Goes c.args.heap.now c.args.command (Full c.in-Full.cycle) c.ask.new.heap =
    subst (λ (a : Reply). Goes c.args.heap.now c.args.command a c.ask.new.heap) c.in-Full.is
    c.in-Ok.ensures.goes in (
      c.in-Ok.ensures.done,
      told,
      stayed c.args.heap.now c.args.command (Full c.in-Full.cycle) c.ask.new.heap refl goes,
    )

pub returns-in_default-clause-leaves : goal.returns-in_default-clause-leaves
returns-in_default-clause-leaves c =
    let none : is_full c.in-Ok.reply ≡ false = search rules in
    went c.args.heap.now c.args.command c.in-Ok.reply c.ask.new.heap none c.in-Ok.ensures.goes

pub returns-in_default-clause-built : goal.returns-in_default-clause-built
returns-in_default-clause-built c =
    let none : is_full c.in-Ok.reply ≡ false = search rules in
    built_one c.args.heap.now c.ask.new.heap c.args.command c.in-Ok.reply none c.in-Ok.ensures.done
    c.in-Ok.ensures.answered
