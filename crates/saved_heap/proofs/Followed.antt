-- A copy that does what its source did shows the graph of its source, up to names.
use Rattle.std.proofs.Common.{◌≡◌, ℕ, Bool, true, false, cond, List, [], ◌∷◌, ◌++◌, length, take, Ok, refl, sym, ap, ◌∙◌, subst, append_assoc}
use Rattle.std.specs.List.{AllByRecursion}
use Rattle.std.proofs.Math.Seq.{take-length}
use Rattle.std.proofs.lemmas.List.{append-nil}
use Rattle.block_store.specs.declared.Config.{Config}
use Rattle.never_heap.specs.declared.Command.{Command}
use Rattle.never_heap.specs.declared.Reply.{Reply}
use Rattle.never_heap.specs.Bounds.{IsCommandInRange}
use Rattle.never_heap.specs.Graphs.{Graph, start_graph}
use Rattle.never_heap.specs.Histories.{HistoryItem, Legal, is_full, replay}
use Rattle.never_heap.specs.Licensed.{Licensed}
use Rattle.never_heap.specs.Steps.{step}
use Rattle.heap_system.specs.Machines.{Run}
use Rattle.saved_heap.specs.heap_pictures.Following.{HasOneThread, StayOneUpToNames, replies_to}
use Rattle.saved_heap.specs.heap_pictures.Pictures.{Content, graph_of, is_sound}
use Rattle.saved_heap.specs.heap_pictures.Plans.{graph_after, plan_of}
use Rattle.saved_heap.specs.heap_pictures.UpToNames.{AreOneUpToNames}
use Rattle.saved_heap.proofs.heap_pictures.Building.{after_append}
use Rattle.control_heap.specs.Controls.{Control, Stands}
use Rattle.control_heap.specs.WayBack.{AllDone}
use Rattle.control_heap.specs.graph_view.ShownGraph.{Goes, Leaves, graph_at_last, graph_told}
use Rattle.control_heap.proofs.graph_view.GraphAnswers.{goes_ok}
use Rattle.saved_heap.specs.Follows.{HasFollowed, HasReplied, IsFollowed, all_noted, noted}
use Rattle.saved_heap.proofs.Copied.{answered_on}

-- the graph after commands with replies is that after those that were noted
noted_first : (b : Bool) (g : Graph) (k : Command) (js : List Command)
    → graph_after (cond b g (step g 0 k).0) js ≡ graph_after g (cond b [] (k ∷ []) ++ js)
noted_first true g k js = refl
noted_first false g k js = refl

noted_after : (g : Graph) (ks : List Command) (ys : List Reply)
    → graph_at_last g ks ys ≡ graph_after g (all_noted ks ys)
noted_after g [] ys = refl
noted_after g (k ∷ ks) [] = refl
noted_after g (k ∷ ks) (a ∷ ys) =
    noted_after (graph_told g k a) ks ys ∙ noted_first (is_full a) g k (all_noted ks ys)

-- those are in range
range_first : (b : Bool) (k : Command) (js : List Command) → IsCommandInRange k
    → AllByRecursion IsCommandInRange js
    → AllByRecursion IsCommandInRange (cond b [] (k ∷ []) ++ js)
range_first true k js one all = all
range_first false k js one all = (one, all)

noted_range : (ks : List Command) (ys : List Reply) (h z : Control) → AllDone h ks ys z
    → AllByRecursion IsCommandInRange (all_noted ks ys)
noted_range [] ys h z all = tt
noted_range (k ∷ ks) [] h z all = tt
noted_range (k ∷ ks) (a ∷ ys) h z all =
    range_first (is_full a) k (all_noted ks ys) all.2.range (noted_range ks ys all.0 z all.5)

-- ---- what is noted keeps pace

pub noted_full : (all : List Command) (k : Command) (a : Reply) → is_full a ≡ true → all ≡ all ++ noted k a
noted_full all k a full = sym (ap (λ b. all ++ cond b [] (k ∷ [])) full ∙ append-nil all)

pub noted_other : (all more : List Command) (k : Command) (a : Reply) → is_full a ≡ false → more ≡ all ++ k ∷ []
    → more ≡ all ++ noted k a
noted_other all more k a none is = is ∙ sym (ap (λ b. all ++ cond b [] (k ∷ [])) none)

noted_one : (k : Command) (a : Reply) → all_noted (k ∷ []) (a ∷ []) ≡ noted k a
noted_one k a = append-nil (noted k a)

noted_on : (ks : List Command) (ys : List Reply) (h z : Control) (k : Command) (a : Reply) → AllDone h ks ys z
    → all_noted (ks ++ k ∷ []) (ys ++ a ∷ []) ≡ all_noted ks ys ++ noted k a
noted_on [] [] h z k a all = noted_one k a
noted_on [] (y ∷ ys) h z k a none = absurd none
noted_on (j ∷ ks) [] h z k a none = absurd none
noted_on (j ∷ ks) (y ∷ ys) h z k a all =
    ap (λ l. noted j y ++ l) (noted_on ks ys all.0 z k a all.5)
    ∙ sym (append_assoc (noted j y) (all_noted ks ys) (noted k a))

pub followed_none : (from : Control) (p : Content) (all : List Command) → all ≡ plan_of p → IsFollowed from p all from
followed_none from p all is = record {
  commands = [];
  replies = [];
  did = refl;
  noted = is ∙ sym (append-nil (plan_of p));
}

pub followed_more : (from old new : Control) (p : Content) (all more : List Command) (k : Command) (a : Reply)
    → more ≡ all ++ noted k a → IsFollowed from p all old → HasReplied old k a new → IsFollowed from p more new
followed_more from old new p all more k a is f one = record {
  commands = f.commands ++ k ∷ [];
  replies = f.replies ++ a ∷ [];
  did = answered_on f.commands (k ∷ []) f.replies (a ∷ []) from old new f.did
      (new, one.config, one.bounds, one.left, one.answered, refl);
  noted = is ∙ ap (λ l. l ++ noted k a) f.noted
      ∙ append_assoc (plan_of p) (all_noted f.commands f.replies) (noted k a)
      ∙ ap (λ l. plan_of p ++ l) (sym (noted_on f.commands f.replies from old k a f.did));
}

module _ (legal : (h : Control) (r : Run) → Stands h r → Legal h.config r.order)
    (licensed : (h : Control) (r : Run) → Stands h r → Licensed h.config r.order) where
  -- the source has the graph after them
  leaves_last : (ks : List Command) (ys : List Reply) (h z : Control) (g : Graph)
      → AllDone h ks ys z → Leaves h g → Leaves z (graph_at_last g ks ys)
  leaves_last [] [] h z g is leaves = subst (λ x. Leaves x g) is leaves
  leaves_last [] (a ∷ ys) h z g none leaves = absurd none
  leaves_last (k ∷ ks) [] h z g none leaves = absurd none
  leaves_last (k ∷ ks) (a ∷ ys) h z g all leaves =
      let goes : Goes h k a all.0 = goes_ok legal licensed h all.0 k (Ok a) all.1 all.4 in
      leaves_last ks ys all.0 z (graph_told g k a) all.5 (goes g leaves).1

  -- and so has the copy
  pub followed : (built : (c : Config) (p : Content) → c.threads ≡ 1 → is_sound p ≡ true
      → AreOneUpToNames (graph_of p) (graph_after (start_graph c) (plan_of p)))
      (chain : (g h z : Graph) → AreOneUpToNames g h → AreOneUpToNames h z → AreOneUpToNames g z)
      (runs : (c : Config) (h : List HistoryItem) → c.threads ≡ 1 → HasOneThread (replay c h))
      (threads : (g : Graph) (ks : List Command) → HasOneThread g
      → HasOneThread (graph_after g ks))
      (names : (g z : Graph) (ks : List Command) → HasOneThread g → HasOneThread z
      → AllByRecursion IsCommandInRange ks → (one : AreOneUpToNames g z)
      → StayOneUpToNames one (graph_after g ks) (graph_after z ks) (replies_to g ks)
      (replies_to z ks))
      (into : Control) (all : List Command) (n : ℕ) → n ≡ length all
      → Leaves into (graph_after (start_graph into.config) (take n all)) → HasFollowed all into
  followed built chain runs threads names into all n end left from now p g f pictured leaves =
      let ks : List Command = f.commands in
      let ys : List Reply = f.replies in
      let did : AllDone from ks ys now = f.did in
      let is : all ≡ plan_of p ++ all_noted ks ys = f.noted in
      let js : List Command = all_noted ks ys in
      let start : Graph = start_graph into.config in
      let single = left.stands.single in
      let parts = pictured leaves.run leaves.stands in
      let seen : AreOneUpToNames g (graph_of p) =
      subst (λ x. AreOneUpToNames x (graph_of p)) leaves.graph parts.1 in
      let lone : HasOneThread g =
      subst HasOneThread leaves.graph (runs from.config leaves.run.order leaves.stands.single) in
      let base : AreOneUpToNames g (graph_after start (plan_of p)) =
      chain g (graph_of p) (graph_after start (plan_of p)) seen
      (built into.config p single parts.0) in
      let stay = names g (graph_after start (plan_of p)) js lone
      (threads start (plan_of p) (runs into.config [] single))
      (noted_range ks ys from now did) base in
      let last : graph_after (graph_after start (plan_of p)) js ≡ graph_after start (take n all) =
      sym (ap (λ j. graph_after start (take j all)) end
      ∙ ap (graph_after start) (take-length all ∙ is) ∙ after_append start (plan_of p) js) in
      record {
        now_has = leaves_last ks ys from now g did leaves;
        into_has = record {
          graph = graph_after start (take n all);
          leaves = left;
          one = subst (λ x. AreOneUpToNames x (graph_after start (take n all)))
              (sym (noted_after g ks ys))
              (subst (AreOneUpToNames (graph_after g js)) last stay.next);
        };
      }
