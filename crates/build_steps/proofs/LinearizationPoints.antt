-- Which event decides what the command answers, and what that is.
use Rattle.std.proofs.Common.{
  ◌≡◌,
  ℕ,
  ◌≤◌,
  ◌+◌,
  ◌⊎◌,
  ◌||◌,
  ◌&&◌,
  Bool,
  true,
  false,
  Some,
  is_some,
  refl,
  arith,
  inl,
  inr,
  eqb,
  ltb,
  cond,
  eq-eqb,
  ne_eqb,
  length,
}
use Rattle.std.proofs.lemmas.Bool.{cases_Bool, cases_eq}
use Rattle.block_store.specs.Widths.{payloads}
use Rattle.block_store.specs.Colours.{link}
use Rattle.block_store.specs.declared.Width.{Width}
use Rattle.block_store.specs.Places.{Extent}
use Rattle.never_heap.specs.declared.Reply.TheVariants as replies
use Rattle.build_steps.specs.declared.rows.BuildRow.{BuildRow}
use Rattle.build_steps.specs.declared.rows.BuildRow.TheVariants.{
  ReadCount,
  Reserve,
  TakeFree,
  Collect,
  PutRest,
  WriteOwner,
  WritePayload,
  WriteColour,
  Built,
  Refused,
}
use Rattle.build_steps.specs.Rows.{
  BuildState,
  row_got,
  row_step,
  row_reply,
  build_got,
  build_step,
  build_over,
  build_reply,
  full_cycle,
  after_take,
  after_collect,
}
use Rattle.build_steps.specs.LinearizationPoints.{
  is_counting,
  is_publishing,
  is_built,
  is_refused,
  decides,
  is_last,
}

row_present : (s : BuildState) (r : BuildRow) → is_some (row_reply s r) ≡ build_over r
row_present s Built = refl
row_present s Refused = refl
row_present s _ = refl

pub present : (s : BuildState) → is_some (build_reply s) ≡ build_over s.row
present s = row_present s s.row

pub either : (P : BuildRow → Type 0) (b : Bool) (q r : BuildRow) → P q → P r → P (cond b q r)
either P true q r x y = x
either P false q r x y = y

-- what holds of all rows in which a part goes on holds after each row that does not end it
module _ (P : BuildRow → Type 0) (take : (u : ℕ) → P (TakeFree u))
    (collect : (a u : ℕ) → P (Collect a u)) (put : (a : ℕ) → P (PutRest a))
    (owner : (o : ℕ) → P (WriteOwner o)) where
  behind_take : (n u v : ℕ) → P (after_take n u v)
  behind_take n u v = either P (eqb v 0) _ _ (take _) (collect _ _)

  behind_collect : (k n count a u : ℕ) → P (after_collect k n count a u)
  behind_collect k n count a u = either P (eqb count k) _ _
      (either P (eqb a 0) _ _ (owner _) (put _)) (either P (eqb a 0) _ _ (take _) (collect _ _))

module _ (w : Width) (s : BuildState) where
  row_refused : (r : BuildRow) (v : ℕ)
      → is_refused (row_got w s r v) ≡ (is_refused r || (is_counting r && ltb v s.blocks))
  row_refused ReadCount v = elim (cases_Bool (ltb v s.blocks)) [
    | inl is ↦ rw is refl
    | inr is ↦ rw is refl
  ]
  row_refused (Reserve seen) v = either (λ r. is_refused r ≡ false) (eqb v seen) _ _ refl refl
  row_refused (TakeFree u) v = behind_take (λ r. is_refused r ≡ false) (λ _. refl) (λ _ _. refl)
      (λ _. refl) (λ _. refl) s.threads u v
  row_refused (Collect a u) v = behind_collect (λ r. is_refused r ≡ false) (λ _. refl) (λ _ _. refl)
      (λ _. refl) (λ _. refl) s.blocks s.threads (length s.held + 1) (link v) u
  row_refused (WritePayload o j) v =
      either (λ r. is_refused r ≡ false) (ltb (j + 1) (payloads w)) _ _ refl refl
  row_refused (WriteColour o) v = either (λ r. is_refused r ≡ false) (eqb o 0) _ _ refl refl
  row_refused _ v = refl

  row_built : (r : BuildRow) (v : ℕ)
      → is_built (row_got w s r v) ≡ (is_built r || is_publishing r)
  row_built ReadCount v = either (λ r. is_built r ≡ false) (ltb v s.blocks) _ _ refl refl
  row_built (Reserve seen) v = either (λ r. is_built r ≡ false) (eqb v seen) _ _ refl refl
  row_built (TakeFree u) v = behind_take (λ r. is_built r ≡ false) (λ _. refl) (λ _ _. refl)
      (λ _. refl) (λ _. refl) s.threads u v
  row_built (Collect a u) v = behind_collect (λ r. is_built r ≡ false) (λ _. refl) (λ _ _. refl)
      (λ _. refl) (λ _. refl) s.blocks s.threads (length s.held + 1) (link v) u
  row_built (WritePayload o j) v =
      either (λ r. is_built r ≡ false) (ltb (j + 1) (payloads w)) _ _ refl refl
  row_built (WriteColour o) v = either (λ r. is_built r ≡ false) (eqb o 0) _ _ refl refl
  row_built _ v = refl

  row_last : (r : BuildRow) (v : ℕ) → is_last (row_step s r v) ≡ build_over (row_got w s r v)
  row_last ReadCount v = elim (cases_Bool (ltb v s.blocks)) [
    | inl is ↦ rw is refl
    | inr is ↦ rw is refl
  ]
  row_last (Reserve seen) v = elim (cases_Bool (eqb v seen)) [
    | inl is ↦ rw is refl
    | inr is ↦ rw is refl
  ]
  row_last (TakeFree u) v = elim (cases_Bool (eqb v 0)) [
    | inl is ↦ elim (cases_Bool (ltb (u + 1) s.threads)) [
      | inl more ↦ rw (is, more) refl
      | inr last ↦ rw (is, last) refl
    ]
    | inr is ↦ rw is refl
  ]
  row_last (Collect a u) v = behind_collect (λ r. false ≡ build_over r) (λ _. refl) (λ _ _. refl)
      (λ _. refl) (λ _. refl) s.blocks s.threads (length s.held + 1) (link v) u
  row_last (WritePayload o j) v =
      either (λ r. false ≡ build_over r) (ltb (j + 1) (payloads w)) _ _ refl refl
  row_last (WriteColour o) v = either (λ r. false ≡ build_over r) (eqb o 0) _ _ refl refl
  row_last _ v = refl

two_ends : (r : BuildRow) → build_over r ≡ (is_built r || is_refused r)
two_ends Built = refl
two_ends Refused = refl
two_ends _ = refl

any_order : (a b c d : Bool) → ((a || b) || (c || d)) ≡ ((a || c) || (b || d))
any_order true b c d = refl
any_order false true true d = refl
any_order false true false d = refl
any_order false false c d = refl

pub refused_after : (e : Extent) (s : BuildState) (v : ℕ)
    → is_refused (build_got e s v).row ≡ (is_refused s.row || (is_counting s.row && ltb v s.blocks))
refused_after e s v = row_refused e.width s s.row v

pub built_after : (e : Extent) (s : BuildState) (v : ℕ)
    → is_built (build_got e s v).row ≡ (is_built s.row || is_publishing s.row)
built_after e s v = row_built e.width s s.row v

pub decided_after : (e : Extent) (s : BuildState) (v : ℕ)
    → build_over (build_got e s v).row ≡ (build_over s.row || decides s v)
decided_after e s v =
    rw (two_ends (build_got e s v).row, refused_after e s v, built_after e s v, two_ends s.row)
    (any_order (is_built s.row) (is_publishing s.row) (is_refused s.row)
    (is_counting s.row && ltb v s.blocks))

pub last_after : (e : Extent) (s : BuildState) (v : ℕ)
    → is_last (build_step s v) ≡ build_over (build_got e s v).row
last_after e s v = row_last e.width s s.row v

row_full : (s : BuildState) (r : BuildRow) → is_refused r ≡ true
    → row_reply s r ≡ Some (replies.Full (full_cycle s.cycle))
row_full s Refused e = refl
row_full s _ e = absurd (let z : false ≡ true = e in cc)

pub full_is : (s : BuildState) → is_refused s.row ≡ true
    → build_reply s ≡ Some (replies.Full (full_cycle s.cycle))
full_is s e = row_full s s.row e

row_new : (s : BuildState) (r : BuildRow) → is_built r ≡ true
    → row_reply s r ≡ Some (replies.New (record { thread = s.thread; serial = s.serial }))
row_new s Built e = refl
row_new s _ e = absurd (let z : false ≡ true = e in cc)

pub new_is : (s : BuildState) → is_built s.row ≡ true
    → build_reply s ≡ Some (replies.New (record { thread = s.thread; serial = s.serial }))
new_is s e = row_new s s.row e

pub cycle_before : (c : ℕ) → 1 ≤ c
    → ((c ≡ 1) × (full_cycle c ≡ 1)) ⊎ (full_cycle c + 1 ≡ c)
cycle_before c some = elim (cases_eq c 1) [
  | inl e ↦ inl (e, rw (eq-eqb c 1 e) refl)
  | inr ne ↦ inr (rw (ne_eqb c 1 ne) (omega arith))
]
