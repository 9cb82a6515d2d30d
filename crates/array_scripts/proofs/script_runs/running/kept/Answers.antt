use Rattle.std.proofs.Common.{◌∙◌, [], map, slice_index_or, sym, ap, subst}
use Rattle.std.proofs.lemmas.Result.{err_from_is_err_and}
use Rattle.block_store.specs.declared.Config.{Config}
use Rattle.exit_statuses.specs.Sides.{sides}
use Rattle.never_heap.specs.Jobs.{IsJobInBounds}
use Rattle.trace_text.specs.Reading.{tokenized}
use Rattle.array_scripts.specs.Answers.{traces_in, answers_in}
use Rattle.array_scripts.specs.Kinds.{AreOfThread}
use Rattle.array_scripts.proofs.Apart.{without_memory}
use Rattle.array_scripts.proofs.ScriptSizes.{fit_at}
use Rattle.array_scripts.specs.script_runs.Runs.{IsRunOf}
use Rattle.array_scripts.proofs.script_runs.running.kept.Goals as goal

pub read_script-requires : goal.read_script-requires
read_script-requires g c = c.requires.reads

pub planned-requires-clause-bounds : goal.planned-requires-clause-bounds
planned-requires-clause-bounds g c =
    let read = c.in_ok-header.ensures.read in
    (c.requires.fits (tokenized read.text) c.in_ok-header.header
    (map (λ ops. ops.items) c.in_ok-header.scripts.items) read.script).config

pub answered-requires-clause-fit : goal.answered-requires-clause-fit
answered-requires-clause-fit g c κs within t =
    let read = c.in_ok-header.ensures.read in
    let scripts = map (λ ops. ops.items) c.in_ok-header.scripts.items in
    subst (λ xs. AreOfThread g.K.Scripted.kind (slice_index_or (map (λ ops. ops.items) xs) t []))
    (sym c.deref.ensures.value) (
      c.in_ok-header.header,
      fit_at g.K.Scripted.kind c.in_ok-header.header (tokenized read.text) scripts
          read.script t,
    )

pub answered-requires-clause-bounds : goal.answered-requires-clause-bounds
answered-requires-clause-bounds g c κs within =
    let read = c.in_ok-header.ensures.read in
    let scripts = map (λ ops. ops.items) c.in_ok-header.scripts.items in
    subst (λ xs. IsJobInBounds c.in_ok-config.config
    (traces_in g.K.Runnable.commands (map (λ ops. ops.items) xs))) (sym c.deref.ensures.value)
    (subst (λ (k : Config). IsJobInBounds k (traces_in g.K.Runnable.commands scripts))
    (sym c.in_ok-config.ensures.0)
    (c.requires.fits (tokenized read.text) c.in_ok-header.header scripts read.script))

pub returns-in_err-answered-clause-refused : goal.returns-in_err-answered-clause-refused
returns-in_err-answered-clause-refused g c =
    let p = err_from_is_err_and c.from_residual-in_err-answered.result
    c.from_residual-in_err-answered.ensures.1 in
    rw (p.1, p.2) (without_memory g.K.Scripted.kind
    (sides g.S.Source.left g.S.Source.faults c.args.source.now c.read_script.new.source)
    c.in_ok-header.header (map (λ ops. ops.items) c.in_ok-header.scripts.items)
    c.in_ok-header.ensures.read c.in_ok-header.ensures.still)

pub returns-clause-kept : goal.returns-clause-kept
returns-clause-kept g c =
    let scripts = map (λ ops. ops.items) c.in_ok-header.scripts.items in
    let run = c.in_ok-answered.answered.0 in (
      record {
        header = c.in_ok-header.header;
        scripts = scripts;
        read = c.in_ok-header.ensures.read;
        room = c.in_ok-config.ensures.2;
        job = subst (λ (k : Config). IsRunOf g.K.Runnable.commands k scripts run)
            c.in_ok-config.ensures.0
            (subst (λ xs. IsRunOf g.K.Runnable.commands c.in_ok-config.config
            (map (λ ops. ops.items) xs) run) c.deref.ensures.value c.in_ok-answered.ensures.job);
        ran = c.in_ok-answered.ensures.ran;
      },
      c.in_ok-answered.ensures.told
          ∙ ap (λ xs. answers_in g.K.Runnable.told (map (λ ops. ops.items) xs) run.logs)
          c.deref.ensures.value,
    )
