use Rattle.std.proofs.Common.{◌≡◌, ℕ, ◌+◌, List, length, get_or, refl, sym, ap, ◌∙◌, subst, arith}
use Rattle.never_heap.specs.declared.Command.{Command}
use Rattle.never_heap.specs.declared.Command.TheVariants as commands
use Rattle.never_heap.specs.declared.Entry.{Entry}
use Rattle.never_heap.specs.declared.Reply.TheVariants as replies
use Rattle.never_heap.specs.Bounds.{IsCommandInBounds}
use Rattle.heap_machine.specs.Memories.{Acts}
use Rattle.heap_system.specs.ThreadMemories.{Ran}
use Rattle.heap_system.specs.Locals.{LocalState, begun}
use Rattle.heap_system.proofs.Lemmas.{rest_is}
use Rattle.block_store.specs.declared.Config.{Config}
use Rattle.heap_system.specs.Machines.{Run}
use Rattle.never_heap.specs.declared.Reply.{Reply}
use Rattle.heap_system.specs.Lives.{objects_of}
use Rattle.control_heap.specs.Controls.{ControlOf, Stands, HasAnswered, HasLeft, HasMade, Machine, Served, asked, given_to}
use Rattle.control_heap.proofs.CommandBound.{rests, begin_units, begin_objects, config_is, unspent, later, logged, more_asked, stands_after}
use Rattle.control_heap.proofs.Fitting.{may_now}
use Rattle.control_heap.proofs.ServeLoop.{all_answered, all_made, behind_it}
use Rattle.control_heap.proofs.control.ControlHeap.request.Goals as goal

-- what was served
fits : {M : Type 0} (h now : ControlOf M) (k : Command) → h ≡ now → IsCommandInBounds now.config k → IsCommandInBounds h.config k
fits h now k e is = subst (λ (x : ControlOf _). IsCommandInBounds x.config k) (sym e) is

room : {M : Type 0} (h now : ControlOf M) (k : Command) → h ≡ now → HasLeft now k → HasLeft h k
room h now k e is = subst (λ (x : ControlOf _). HasLeft x k) (sym e) is

served : {M : Type 0} (h : ControlOf M) (k : Command) (l : LocalState) (z : Machine) → l ≡ (given_to h k).thread → Served (record { words = h.words; thread = l }) z → Served (given_to h k) z
served h k l z e is = subst (λ x. Served (record { words = h.words; thread = x }) z) e is

made_from : {M : Type 0} (h now : ControlOf M) (same : h ≡ now) (k : Command) (l : LocalState) (z : Machine) (m : M) → l ≡ begun k h.thread → (r : Run) → Stands h r
    → (acts : Acts M (Unit {0})) (words : List ℕ) → Ran acts tt h.memory l words m z.thread
    → (is : Served (record { words = h.words; thread = l }) z) → is.events ≡ length words
    → IsCommandInBounds now.config k → HasLeft now k → HasMade acts now k (behind_it h k z m)
made_from {M} h now same k l z m begins r stands acts = subst (λ (x : LocalState). (words : List ℕ) → Ran acts tt h.memory x words m z.thread → (is : Served (record { words = h.words; thread = x }) z) → is.events ≡ length words → IsCommandInBounds now.config k → HasLeft now k → HasMade acts now k (behind_it h k z m)) (sym begins)
    (λ words ran is counted. all_made h now same k z m is acts r stands words ran counted)

pub bounds-log-0 : goal.bounds-log-0
bounds-log-0 g c =
    let h : ControlOf g.row.M.Denot = record { config = c.self.inside.config; memory = c.self.inside.memory; words = g.M.Store.shows c.self.inside.memory; thread = c.self.inside.thread; count = c.self.inside.count; objects = c.self.inside.objects } in
    let n = c.serve.new.memory in
    let z : Machine = record { words = g.M.Store.shows n; thread = c.serve.new.thread } in
    omega (arith, logged h c.self.invariant.0 c.self.invariant.1 c.args.command (fits h c.args.self.now c.args.command c.self.view_is c.requires.bounds) (room h c.args.self.now c.args.command c.self.view_is c.requires.left) z n (served h c.args.command (begun c.args.command h.thread) z refl c.serve.ensures.served), ap length c.log.ensures)

pub invariant_of-self : goal.invariant_of-self
invariant_of-self g c =
    let h : ControlOf g.row.M.Denot = record { config = c.self.inside.config; memory = c.self.inside.memory; words = g.M.Store.shows c.self.inside.memory; thread = c.self.inside.thread; count = c.self.inside.count; objects = c.self.inside.objects } in
    let n = c.serve.new.memory in
    let z : Machine = record { words = g.M.Store.shows n; thread = c.serve.new.thread } in
    let f = fits h c.args.self.now c.args.command c.self.view_is c.requires.bounds in
    let l = room h c.args.self.now c.args.command c.self.view_is c.requires.left in (
      later h c.self.invariant.0 c.self.invariant.1 c.args.command f l,
      subst (λ x. Stands (record { config = h.config; memory = n; words = z.words; thread = z.thread; count = h.count + 1; objects = h.objects + x }) (later h c.self.invariant.0 c.self.invariant.1 c.args.command f l)) (sym c.objects_of.ensures) (stands_after h c.self.invariant.0 c.self.invariant.1 c.args.command f l z n (served h c.args.command (begun c.args.command h.thread) z refl c.serve.ensures.served)),
    )

pub returns-clause-one_more : goal.returns-clause-one_more
returns-clause-one_more g c =
    let h : ControlOf g.row.M.Denot = record { config = c.self.inside.config; memory = c.self.inside.memory; words = g.M.Store.shows c.self.inside.memory; thread = c.self.inside.thread; count = c.self.inside.count; objects = c.self.inside.objects } in
    let n = c.serve.new.memory in
    let z : Machine = record { words = g.M.Store.shows n; thread = c.serve.new.thread } in
    more_asked h c.self.invariant.0 c.self.invariant.1 c.args.command (fits h c.args.self.now c.args.command c.self.view_is c.requires.bounds) (room h c.args.self.now c.args.command c.self.view_is c.requires.left) z n (served h c.args.command (begun c.args.command h.thread) z refl c.serve.ensures.served)
    ∙ ap (λ x. asked x + 1) c.self.view_is

-- represents no entry
abbrev none : Entry
none = record { thread = 0; command = commands.New 0 0; reply = replies.New (record { thread = 0; serial = 0 }); work = 0 }

-- the objects as the code counts them
counted_so : {M : Type 0} (P : ControlOf M → Type 0) (h : ControlOf M) (k : Command) (z : Machine) (m : M) (n : ℕ) → n ≡ objects_of k
    → P (behind_it h k z m)
    → P (record { config = h.config; memory = m; words = z.words; thread = z.thread; count = h.count + 1; objects = h.objects + n })
counted_so P h k z m n e is = subst (λ x. P (record { config = h.config; memory = m; words = z.words; thread = z.thread; count = h.count + 1; objects = h.objects + x })) (sym e) is

answered_so : {M : Type 0} (now h : ControlOf M) (k : Command) (a : Reply) (z : Machine) (m : M) (n : ℕ) → n ≡ objects_of k
    → HasAnswered now k a (behind_it h k z m)
    → HasAnswered now k a (record { config = h.config; memory = m; words = z.words; thread = z.thread; count = h.count + 1; objects = h.objects + n })
answered_so now h k a z m n e is = counted_so (λ x. HasAnswered now k a x) h k z m n e is

pub returns-clause-answered : goal.returns-clause-answered
returns-clause-answered g c =
    let h : ControlOf g.row.M.Denot = record { config = c.self.inside.config; memory = c.self.inside.memory; words = g.M.Store.shows c.self.inside.memory; thread = c.self.inside.thread; count = c.self.inside.count; objects = c.self.inside.objects } in
    let n = c.serve.new.memory in
    let z : Machine = record { words = g.M.Store.shows n; thread = c.serve.new.thread } in
    answered_so c.args.self.now h c.args.command _ z n c.objects_of.result c.objects_of.ensures
    (all_answered h c.args.self.now c.self.view_is c.args.command z n (served h c.args.command (begun c.args.command h.thread) z refl c.serve.ensures.served) none _ (ap (λ (es : List Entry). (get_or es 0 none).reply) c.log.ensures) c.requires.bounds c.requires.left)

pub returns-clause-made : goal.returns-clause-made
returns-clause-made g c =
    let h : ControlOf g.row.M.Denot = record { config = c.self.inside.config; memory = c.self.inside.memory; words = g.M.Store.shows c.self.inside.memory; thread = c.self.inside.thread; count = c.self.inside.count; objects = c.self.inside.objects } in
    let n = c.serve.new.memory in
    let z : Machine = record { words = g.M.Store.shows n; thread = c.serve.new.thread } in
    let is = c.serve.ensures in
    counted_so (λ x. HasMade g.M.Memory.acts c.args.self.now c.args.command x) h c.args.command z n c.objects_of.result c.objects_of.ensures
    (made_from h c.args.self.now c.self.view_is c.args.command (begun c.args.command h.thread) z n refl c.self.invariant.0 c.self.invariant.1 g.M.Memory.acts is.words is.ran is.served is.counted c.requires.bounds c.requires.left)

pub returns-clause-fits : goal.returns-clause-fits
returns-clause-fits g c =
    let h : ControlOf g.row.M.Denot = record { config = c.self.inside.config; memory = c.self.inside.memory; words = g.M.Store.shows c.self.inside.memory; thread = c.self.inside.thread; count = c.self.inside.count; objects = c.self.inside.objects } in
    let n = c.serve.new.memory in
    let z : Machine = record { words = g.M.Store.shows n; thread = c.serve.new.thread } in
    may_now h c.args.self.now c.self.view_is c.self.invariant.0 c.self.invariant.1 (behind_it h c.args.command z n) c.args.command _ refl
    (all_answered h c.args.self.now c.self.view_is c.args.command z n (served h c.args.command (begun c.args.command h.thread) z refl c.serve.ensures.served) none _ (ap (λ (es : List Entry). (get_or es 0 none).reply) c.log.ensures) c.requires.bounds c.requires.left)

pub serve-requires : goal.serve-requires
serve-requires g c =
    let h : ControlOf g.row.M.Denot = record { config = c.self.inside.config; memory = c.self.inside.memory; words = g.M.Store.shows c.self.inside.memory; thread = c.self.inside.thread; count = c.self.inside.count; objects = c.self.inside.objects } in
    let st = c.self.invariant.1 in
    let f = fits h c.args.self.now c.args.command c.self.view_is c.requires.bounds in
    let l = room h c.args.self.now c.args.command c.self.view_is c.requires.left in
    record {
      begins = record {
        one = st.one;
        rest = rest_is h.thread.part (rests h c.self.invariant.0 st);
        settled = unspent h c.self.invariant.0 st;
        alone = ap (λ (x : Config). x.threads) (config_is h c.self.invariant.0 st) ∙ st.single;
        bounds = subst (λ y. IsCommandInBounds y c.args.command) (sym (config_is h c.self.invariant.0 st)) f;
        units = begin_units h c.self.invariant.0 st c.args.command f l;
        objects = begin_objects h c.self.invariant.0 st c.args.command f l;
      };
      begun = record {
        heap = h;
        command = c.args.command;
        run = c.self.invariant.0;
        stood = st;
        bounds = f;
        left = l;
        same = refl;
      };
    }
