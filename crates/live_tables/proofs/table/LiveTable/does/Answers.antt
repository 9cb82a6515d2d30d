use Rattle.std.proofs.Common.{rules, ℕ, ◌≡◌, ◌<◌, ◌≤◌, List, [], ◌∷◌, length, subst, sym, ap, ◌∙◌}
use Rattle.std.specs.List.{AllByRecursion}
use Rattle.block_store.specs.Configs.{IsInBounds}
use Rattle.block_store.specs.declared.Config.{Config}
use Rattle.block_store.specs.declared.Width.{Width}
use Rattle.block_store.specs.declared.Width.TheVariants.{Eight}
use Rattle.never_heap.specs.Bounds.{IsCommandInBounds}
use Rattle.never_heap.specs.declared.Command.{Command}
use Rattle.shared_heap.specs.Workers.{WorkerState}
use Rattle.live_tables.specs.rows.Life.{HasRoomFor, HasRun, MakeObjects}
use Rattle.live_tables.specs.rows.Rows.{Rows, commands_of}
use Rattle.live_tables.specs.rows.Workers.{HasDone, IsNext, RowWorkerState, row_worker}
use Rattle.live_tables.proofs.rows.Doing.{was_done}
use Rattle.live_tables.proofs.rows.Lawful.{some_commands}
use Rattle.live_tables.proofs.rows.Tables.{are_in_bounds, goes_on, ops_few}
use Rattle.live_tables.proofs.table.LiveTable.does.Goals as goal

pub has_life-requires-clause-some : goal.has_life-requires-clause-some
has_life-requires-clause-some g c =
    subst (λ (ks : List Command). 0 < length ks) (sym c.requires.commands)
    (some_commands g.K.Table.rows c.is_lawful.ensures _)

pub has_life-requires-clause-make : goal.has_life-requires-clause-make
has_life-requires-clause-make g c =
    let heap = c.who.invariant.worker.heap in
    let wide = c.is_lawful.ensures.wide c.who.inside.worker.thread.config.threads
    c.who.inside.worker.thread.config.shared c.who.inside.worker.thread.config.blocks in
    subst (λ (x : Width). MakeObjects x c.objects_in.result c.args.commands.now)
    (sym (ap (λ (k : Config). k.width) heap ∙ wide))
    (subst (λ (ks : List Command). MakeObjects Eight c.objects_in.result ks) (sym c.requires.commands)
    (c.objects_in.ensures.make c.args.who.now))

pub run-replies-requires-clause-bounds : goal.run-replies-requires-clause-bounds
run-replies-requires-clause-bounds g c =
    let old : WorkerState = c.who.inside.worker in
    let w = row_worker g.K.Table.rows old in
    let is : c.args.commands.now
    ≡ commands_of g.K.Table.rows (g.K.Table.operation_of w c.args.request ∷ []) =
    subst (λ v. c.args.commands.now ≡ commands_of g.K.Table.rows (g.K.Table.operation_of v c.args.request ∷ []))
    (sym c.who.view_is) c.requires.commands in
    let next : IsNext g.K.Table.rows w (g.K.Table.operation_of w c.args.request) =
    subst (λ v. IsNext g.K.Table.rows v (g.K.Table.operation_of v c.args.request)) (sym c.who.view_is)
    c.requires.next in
    let same : old.thread.config ≡ c.args.self.now.config =
    subst (λ v. v.worker.thread.config ≡ c.args.self.now.config) (sym c.who.view_is)
    c.requires.own.1 in
    subst (λ (ks : List Command). AllByRecursion (IsCommandInBounds old.thread.config) ks) (sym is)
    (are_in_bounds g.K.Table.rows c.is_lawful.ensures g.K.Table.Keeps old c.who.inside.own c.who.invariant
    (g.K.Table.operation_of w c.args.request) next c.args.self.now.config same
    (subst (λ t. IsInBounds t.config) c.self.view_is c.has_life.ensures.config))

pub next-own-requires : goal.next-own-requires
next-own-requires g c =
    let old : WorkerState = c.who.inside.worker in
    let w = row_worker g.K.Table.rows old in
    let next : IsNext g.K.Table.rows w (g.K.Table.operation_of w c.args.request) =
    subst (λ v. IsNext g.K.Table.rows v (g.K.Table.operation_of v c.args.request)) (sym c.who.view_is)
    c.requires.next in (
      w,
      old.thread.config,
      old.thread.thread,
      c.who.invariant.keeps,
      ops_few g.K.Table.rows c.is_lawful.ensures g.K.Table.Keeps old c.who.inside.own c.who.invariant
          (g.K.Table.operation_of w c.args.request) next,
      next,
    )

pub invariant_of-who : goal.invariant_of-who
invariant_of-who g c =
    let old : WorkerState = c.who.inside.worker in
    let w = row_worker g.K.Table.rows old in
    let op = g.K.Table.operation_of w c.args.request in
    let new : WorkerState = c.run-replies.new.who in
    let is : c.args.commands.now ≡ commands_of g.K.Table.rows (op ∷ []) =
    subst (λ v. c.args.commands.now ≡ commands_of g.K.Table.rows (g.K.Table.operation_of v c.args.request ∷ []))
    (sym c.who.view_is) c.requires.commands in
    let next : IsNext g.K.Table.rows w op =
    subst (λ v. IsNext g.K.Table.rows v (g.K.Table.operation_of v c.args.request)) (sym c.who.view_is)
    c.requires.next in
    let run : HasRun old (commands_of g.K.Table.rows (op ∷ [])) c.run-replies.result new =
    subst (λ (ks : List Command). HasRun old ks c.run-replies.result new) is
    c.run-replies.ensures.run in
    let room_now : HasRoomFor old.thread c.args.commands.now = search rules in
    let room : HasRoomFor old.thread (commands_of g.K.Table.rows (op ∷ [])) =
    subst (λ (ks : List Command). HasRoomFor old.thread ks) is room_now in
    goes_on g.K.Table.rows c.is_lawful.ensures g.K.Table.Keeps old c.who.inside.own c.who.invariant op
    next new c.run-replies.result run room c.next-own.result (c.next-own.ensures w)

pub returns-clause-did : goal.returns-clause-did
returns-clause-did g c =
    let old : WorkerState = c.who.inside.worker in
    let w = row_worker g.K.Table.rows old in
    let op = g.K.Table.operation_of w c.args.request in
    let new : WorkerState = c.run-replies.new.who in
    let is : c.args.commands.now ≡ commands_of g.K.Table.rows (op ∷ []) =
    subst (λ v. c.args.commands.now ≡ commands_of g.K.Table.rows (g.K.Table.operation_of v c.args.request ∷ []))
    (sym c.who.view_is) c.requires.commands in
    let next : IsNext g.K.Table.rows w op =
    subst (λ v. IsNext g.K.Table.rows v (g.K.Table.operation_of v c.args.request)) (sym c.who.view_is)
    c.requires.next in
    let run : HasRun old (commands_of g.K.Table.rows (op ∷ [])) c.run-replies.result new =
    subst (λ (ks : List Command). HasRun old ks c.run-replies.result new) is
    c.run-replies.ensures.run in
    subst (λ v. HasDone g.K.Table.rows v (g.K.Table.operation_of v c.args.request)
    (g.K.Table.rows.answer_by (g.K.Table.operation_of v c.args.request) c.run-replies.result)
    (row_worker g.K.Table.rows new)) c.who.view_is
    (was_done g.K.Table.rows c.is_lawful.ensures old new op c.run-replies.result c.who.invariant.worker
    next run c.has_life.ensures.sound
    (c.run-replies.ensures.begun (subst (λ (ks : List Command). 0 < length ks)
    (sym is) (some_commands g.K.Table.rows c.is_lawful.ensures _))))
