-- Commands from a small graph on, of which some may be answered full: after two cycles the heap
-- shows the graph that they left.
use Rattle.std.proofs.Common.{◌≡◌, ℕ, ◌+◌, ◌-◌, ◌*◌, ◌<◌, ◌≤◌, max, List, [], ◌∷◌, ◌++◌, append_assoc, append-nil, refl, sym, ap, ◌∙◌, subst, arith}
use Rattle.block_store.specs.declared.Config.{Config}
use Rattle.rate_plan.specs.Rates.{IsRate}
use Rattle.never_heap.specs.declared.Command.{Command}
use Rattle.never_heap.specs.declared.Reply.{Reply}
use Rattle.never_heap.specs.Cycles.{graph_at}
use Rattle.never_heap.specs.Graphs.{Graph, start_graph}
use Rattle.never_heap.specs.Histories.{HistoryItem, Did, after, replay, replay_from, starts_in}
use Rattle.never_heap.proofs.Lemmas.{replay_append, starts_append}
use Rattle.heap_system.specs.Machines.{Run}
use Rattle.heap_system.proofs.Lemmas.{RunTallied, laws_of, run_tallied, tallies_of}
use Rattle.control_heap.specs.Controls.{Control, Stands, Answers, units}
use Rattle.control_heap.specs.WayBack.{AllDone, StartsSmallFrom}
use Rattle.control_heap.proofs.Pace.{Onward, onward_on}
use Rattle.control_heap.proofs.WayBacks.{command_at, few_cycles, paced}
use Rattle.control_heap.specs.graph_view.ShownGraph.{IsSmall, StaySmall, Leaves, Shows, AllStaySmall, graph_at_last, graph_told}
use Rattle.control_heap.proofs.graph_view.GraphAnswers.{HasOne, one_entry, own_items, small_append, small_behind, small_last, told_is}

module _ (c : Config) (rate : ℕ) (planned : IsRate c rate) where
  record Told (z : Control) (ks : List Command) (ys : List Reply) (g : Graph) (r : Run) (from : RunTallied c rate r) : Type 0 where
    pub run : Run
    pub stands : Stands z run
    pub config : z.config ≡ c
    pub items : List HistoryItem
    pub order : run.order ≡ r.order ++ items
    pub onward : Onward c rate r run from
    pub small : StaySmall c g items
    pub graph : replay_from g items ≡ graph_at_last g ks ys

  told : (ks : List Command) (ys : List Reply) (h z : Control) → h.config ≡ c → (g : Graph) → IsSmall c g → (r : Run) → Stands h r → (from : RunTallied c rate r) → AllDone h ks ys z → AllStaySmall c g ks ys → Told z ks ys g r from
  told [] [] h z same g now r stands from is small = record {
    run = r;
    stands = subst (λ x. Stands x r) is stands;
    config = ap (λ (x : Control). x.config) (sym is) ∙ same;
    items = [];
    order = sym (append-nil r.order);
    onward = record { counts = from; begun = 0; cycle = omega arith; past = omega arith };
    small = now;
    graph = refl;
  }
  told [] (a ∷ ys) h z same g now r stands from none small = absurd none
  told (k ∷ ks) [] h z same g now r stands from none small = absurd none
  told (k ∷ ks) (a ∷ ys) h z same g now r stands from all small =
      let next = all.4 r stands in
      let s : Answers h.config k a r next.0 = next.2 in
      let on : Onward c rate r next.0 from = command_at c rate planned h same r stands k all.2 all.3 a next.0 s from in
      let one : HasOne c g s.items s.entry = one_entry c g s.items s.entry s.entries (own_items h.config k a r next.0 s) in
      let here : after g (Did s.entry) ≡ graph_told g k a = told_is g k a s.entry one.thread s.command s.reply in
      let first : StaySmall c g s.items = one.small now (subst (IsSmall c) (sym here) small.0) in
      let rest = told ks ys all.0 z (all.1 ∙ same) (graph_told g k a) small.0 next.0 next.1 on.counts all.5 small.1 in
      record {
        run = rest.run;
        stands = rest.stands;
        config = rest.config;
        items = s.items ++ rest.items;
        order = rest.order ∙ ap (λ x. x ++ rest.items) s.order ∙ append_assoc r.order s.items rest.items;
        onward = onward_on c rate r next.0 rest.run from on rest.onward;
        small = small_append c g s.items rest.items first (subst (λ x. StaySmall c x rest.items) (sym (one.graph ∙ here)) rest.small);
        graph = replay_append g s.items rest.items ∙ ap (λ x. replay_from x rest.items) (one.graph ∙ here) ∙ rest.graph;
      }

pub come_back : (h z : Control) (g : Graph) (ks : List Command) (ys : List Reply) → Leaves h g → IsSmall h.config g → AllDone h ks ys z → AllStaySmall h.config g ks ys
    → units h + 4 * h.config.blocks < units z → Shows z (graph_at_last g ks ys)
come_back h z g ks ys leaves now all small more =
    let c = h.config in
    let r = leaves.run in
    let is = leaves.stands.run.after in
    let rate = is.by_turns.opening.rate in
    let planned : IsRate h.config rate = is.by_turns.opening.planned in
    let from : RunTallied h.config rate r = run_tallied h.config is.traces is.job rate planned (laws_of h.config) (tallies_of h.config) is.turns r is.by_turns in
    let t = told h.config rate planned ks ys h z refl g now r leaves.stands from all small in
    let cycles : 2 ≤ starts_in t.items = few_cycles h.config.blocks (units h) (units z) (starts_in t.items)
    (paced h.config rate planned h r leaves.stands refl z t.run t.stands t.config from t.onward t.items t.order) more in
    let starts : starts_in t.run.order ≡ starts_in r.order + starts_in t.items = ap starts_in t.order ∙ starts_append r.order t.items in
    let graph : replay h.config t.run.order ≡ graph_at_last g ks ys =
    ap (replay h.config) t.order ∙ replay_append (start_graph h.config) r.order t.items ∙ ap (λ x. replay_from x t.items) leaves.graph ∙ t.graph in
    let lately : StartsSmallFrom h.config (max 1 (starts_in t.run.order - 1)) t.run.order =
    (λ y low high. subst (λ o. y ≤ starts_in o → IsSmall h.config (graph_at h.config o y)) (sym t.order)
    (λ h2. small_behind h.config g r.order t.items y leaves.graph t.small (omega (arith, low, starts, cycles)) h2) high) in
    record {
      run = t.run;
      stands = t.stands;
      graph = ap (λ d. replay d t.run.order) t.config ∙ graph;
      now = subst (λ d. IsSmall d (graph_at_last g ks ys)) (sym t.config) (subst (IsSmall h.config) t.graph (small_last h.config g t.items t.small));
      lately = subst (λ d. StartsSmallFrom d (max 1 (starts_in t.run.order - 1)) t.run.order) (sym t.config) lately;
    }
