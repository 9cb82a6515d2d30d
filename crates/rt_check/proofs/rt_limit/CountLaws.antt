-- Counts along an order of commands.
use Rattle.std.proofs.Common.{ℕ, ◌+◌, ◌/◌, ◌≡◌, ◌≤◌, inl, inr, max, List, [], ◌∷◌, ◌++◌, ap, sym, ◌∙◌, refl, subst, arith, append_assoc, append-nil}
use Rattle.std.proofs.lemmas.Bool.{cases_lt}
use Rattle.std.proofs.lemmas.List.Sums.{sum_by_push, sum_by-cons}
use Rattle.block_store.specs.declared.Width.{Width}
use Rattle.never_heap.specs.Graphs.{Graph}
use Rattle.never_heap.specs.LiveBlocks.{live_blocks}
use Rattle.never_heap.specs.Steps.{blocks_of}
use Rattle.rt_check.specs.declared.moves.Move.{Move}
use Rattle.rt_check.specs.declared.rt_limit.counts.Counter.{Counter}
use Rattle.rt_check.specs.rt_limit.Counting.{Knows}
use Rattle.rt_check.specs.rt_limit.Moments.{graph_after, graph_behind, blocks_made, most_live, IsMoment}
use Rattle.never_heap.proofs.Lemmas.{grows}

-- ---- an order that goes on by a command

pub behind_more : (g : Graph) (ms : List Move) (m : Move)
    → graph_behind g (ms ++ m ∷ []) ≡ graph_after (graph_behind g ms) m
behind_more g [] m = refl
behind_more g (x ∷ ms) m = behind_more (graph_after g x) ms m

pub made_more : (w : Width) (ms : List Move) (m : Move)
    → blocks_made w (ms ++ m ∷ []) ≡ blocks_made w ms + blocks_of w m.command
made_more w ms m = sum_by_push (λ (x : Move). blocks_of w x.command) ms m

pub most_more : (w : Width) (g : Graph) (ms : List Move) (m : Move)
    → most_live w g (ms ++ m ∷ [])
    ≡ max (most_live w g ms) (live_blocks w (graph_behind g (ms ++ m ∷ [])))
most_more w g [] m = refl
most_more w g (x ∷ ms) m = let rest = most_more w (graph_after g x) ms m in omega arith

-- no more is live than at first, and what was made
pub live_small : (w : Width) (g : Graph) (ms : List Move)
    → live_blocks w (graph_behind g ms) ≤ live_blocks w g + blocks_made w ms
live_small w g [] = omega arith
live_small w g (m ∷ ms) =
    let rest = live_small w (graph_after g m) ms in
    let one = grows w g m.thread m.command in
    let sum = sum_by-cons (λ (x : Move). blocks_of w x.command) m ms in
    omega arith

pub most_first : (w : Width) (g : Graph) (ms : List Move) → live_blocks w g ≤ most_live w g ms
most_first w g [] = omega arith
most_first w g (m ∷ ms) = omega arith

-- ---- moments

pub moment_more : (w : Width) (g : Graph) (ms : List Move) (m : Move) (n : ℕ)
    → IsMoment w g ms n → IsMoment w g (ms ++ m ∷ []) n
moment_more w g ms m n i = record {
  before = i.before;
  behind = i.behind ++ m ∷ [];
  order = ap (λ (xs : List Move). xs ++ m ∷ []) i.order ∙ append_assoc i.before i.behind (m ∷ []);
  live = i.live;
}

pub moment_now : (w : Width) (g : Graph) (ms : List Move) (n : ℕ)
    → n ≡ live_blocks w (graph_behind g ms) → IsMoment w g ms n
moment_now w g ms n e = record {
  before = ms;
  behind = [];
  order = sym (append-nil ms);
  live = e;
}

pub max_moment : (w : Width) (g : Graph) (ms : List Move) (a b : ℕ)
    → IsMoment w g ms a → IsMoment w g ms b → IsMoment w g ms (max a b)
max_moment w g ms a b p q = elim (cases_lt a b) [
  | inl low ↦ subst (IsMoment w g ms) (let e : b ≡ max a b = omega arith in e) q
  | inr high ↦ subst (IsMoment w g ms) (let e : a ≡ max a b = omega arith in e) p
]

-- at a moment no more is live than at most
pub moment_most : (w : Width) (g : Graph) (before behind : List Move)
    → live_blocks w (graph_behind g before) ≤ most_live w g (before ++ behind)
moment_most w g [] behind = most_first w g behind
moment_most w g (m ∷ before) behind =
    let rest = moment_most w (graph_after g m) before behind in omega arith

part_less : (a b : ℕ) → a ≤ b → a / 64 ≤ b / 64
part_less a b l = omega arith

-- ---- what is known at first, and after one more command

pub knows_first : (w : Width) (g : Graph) (k : Counter) → k.figures.allocated ≡ 0
    → k.figures.reached ≡ live_blocks w g → k.figures.enough ≡ live_blocks w g
    → k.bound ≡ live_blocks w g → Knows w g [] k
knows_first w g k allocated reached enough bound = record {
  figures = record {
    allocated = allocated;
    counted = moment_now w g [] k.figures.reached reached;
    reached = omega arith;
    enough = omega arith;
    near = omega arith;
  };
  live = omega arith;
  small = omega arith;
  reached = omega arith;
}

module _ (w : Width) (g : Graph) (past : List Move) (m : Move) (old new : Counter)
    (k : Knows w g past old)
    (allocated : new.figures.allocated ≡ old.figures.allocated + blocks_of w m.command) where
  abbrev more : List Move
  more = past ++ m ∷ []

  abbrev now : ℕ
  now = live_blocks w (graph_behind g more)

  step_grows : now ≤ live_blocks w (graph_behind g past) + blocks_of w m.command
  step_grows =
      let next = ap (live_blocks w) (behind_more g past m) in
      let one = grows w (graph_behind g past) m.thread m.command in
      omega arith

  knows_more : IsMoment w g more new.figures.reached
      → now ≤ new.bound → new.bound ≤ live_blocks w g + blocks_made w more
      → old.figures.reached ≤ new.figures.reached
      → new.figures.reached ≤ most_live w g more
      → new.figures.reached ≤ live_blocks w g + blocks_made w more
      → new.bound ≤ new.figures.reached + new.figures.reached / 64
      → new.figures.enough ≡ max old.figures.enough new.bound → Knows w g more new
  knows_more moment live small kept most reached near enough =
      let part = part_less old.figures.reached new.figures.reached kept in
      let a = k.figures.near in
      let b = k.figures.enough in
      let c = most_more w g past m in
      let d = made_more w past m in
      let e = k.figures.allocated in
      record {
        figures = record {
          allocated = omega arith;
          counted = moment;
          reached = most;
          enough = omega arith;
          near = omega arith;
        };
        live = live;
        small = small;
        reached = reached;
      }

  -- where the bound is near the greatest count, nothing is counted
  pub not_counted : new.bound ≡ old.bound + blocks_of w m.command
      → new.figures.reached ≡ old.figures.reached
      → new.bound ≤ old.figures.reached + old.figures.reached / 64
      → new.figures.enough ≡ max old.figures.enough new.bound → Knows w g more new
  not_counted bound same low enough =
      let one = step_grows in
      let live = k.live in
      let small = k.small in
      let reached = k.reached in
      let most = k.figures.reached in
      let c = most_more w g past m in
      let d = made_more w past m in
      let near : new.bound ≤ new.figures.reached + new.figures.reached / 64 =
      subst (λ (n : ℕ). new.bound ≤ n + n / 64) (sym same) low in
      knows_more (subst (IsMoment w g more) (sym same)
      (moment_more w g past m old.figures.reached k.figures.counted))
      (omega arith) (omega arith) (omega arith) (omega arith) (omega arith) near enough

  pub counted : new.bound ≡ now → new.figures.reached ≡ max old.figures.reached new.bound
      → new.figures.enough ≡ max old.figures.enough new.bound → Knows w g more new
  counted bound greatest enough =
      let small = live_small w g more in
      let reached = k.reached in
      let most = k.figures.reached in
      let c = most_more w g past m in
      let d = made_more w past m in
      let is : new.figures.reached ≡ max old.figures.reached now =
      greatest ∙ ap (λ (n : ℕ). max old.figures.reached n) bound in
      knows_more (subst (IsMoment w g more) (sym is) (max_moment w g more old.figures.reached now
      (moment_more w g past m old.figures.reached k.figures.counted)
      (moment_now w g more now refl)))
      (omega arith) (omega arith) (omega arith) (omega arith) (omega arith) (omega arith) enough
