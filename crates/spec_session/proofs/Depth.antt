-- How deep the stack is: each pair that is open has its left value on the stack, or its right side is still to parse. So the stack has at most as many
-- values as pairs are open, which question 12 keeps to 4,096, and one more right after a value is pushed.
-- Assumes nothing.
use Rattle.std.specs.Prelude.{ℕ, zero, suc, ◌+◌, ◌≤◌, ◌<◌, ◌≡◌, refl, Bool, true, false, cond, ltb, length, take}
use mathlib.Core.List.{List, [], ◌∷◌, ◌++◌}
use Rattle.std.proofs.Math.Option.{Option, none, some}
use Rattle.std.proofs.Common.{arith, ltb-false}
use Rattle.words.specs.Lists.{All, all_append, all_take}
use Rattle.spec_session.specs.File.{File, Step}
use Rattle.spec_session.specs.Unfold.{Unfolded, hole, leaf, node, unfolded}
use Rattle.spec_session.specs.Cache.{Cache, update}
use Rattle.spec_session.specs.Items.{Item, cons_item, atom_item, reference_item, size_of}
use Rattle.spec_session.specs.Writer.{Todo, parse, close, Written, Outcome, done, stopped, refused, and_then, atom_entry, pair_entry, push}
use Rattle.spec_session.specs.Writer.{pop2, close_up, choose, put_if, put, put_whole, write, resume, Session, start, Added, added, turned_down}
use Rattle.spec_session.specs.Writer.{settle, add_at, add_tree}
use Rattle.spec_session.specs.Trees.{nth}
use Rattle.spec_session.specs.FindPath.{find_in}
use Rattle.spec_session.specs.Steps.{open_pairs, room_in, restored, State, at_start, add_handle, run_steps}
use Rattle.spec_session.proofs.Bounds.{all_nth, AddKept, StepsKept, run_kept}

-- ---- what is left to write

-- How many subtrees are left to parse.
abbrev pub parses : List Todo → ℕ
parses [] = 0
parses (parse u ∷ k) = suc (parses k)
parses (close h ∷ k) = parses k

-- Every subtree that is left to parse is the right side of the pair whose end comes next.
abbrev pub Formed : List Todo → Type 0
Formed [] = Unit {0}
Formed (close h ∷ k) = Formed k
Formed (parse u ∷ []) = ⊥
Formed (parse u ∷ parse v ∷ k) = ⊥
Formed (parse u ∷ close h ∷ k) = Formed k

pub formed_next : (u : Unfolded) (k : List Todo) → Formed (parse u ∷ k) → Formed k
formed_next u [] f = tt
formed_next u (parse v ∷ k) f = absurd f
formed_next u (close h ∷ k) f = f

pub parses_few : (k : List Todo) → Formed k → parses k ≤ open_pairs k
parses_few [] f = omega arith
parses_few (close h ∷ k) f = omega (arith, parses_few k f)
parses_few (parse u ∷ []) f = absurd f
parses_few (parse u ∷ parse v ∷ k) f = absurd f
parses_few (parse u ∷ close h ∷ k) f = omega (arith, parses_few k f)

-- Before a subtree, with k left to write after it.
pub record Balanced (k : List Todo) (stack : List ℕ) : Type 0 where
  pub formed : Formed k
  pub even : length stack + parses k ≡ open_pairs k
  pub shallow : open_pairs k ≤ 4096

-- After a subtree: its value is on the stack too.
pub record Pushed (k : List Todo) (stack : List ℕ) : Type 0 where
  pub formed : Formed k
  pub over : length stack + parses k ≡ suc (open_pairs k)
  pub shallow : open_pairs k ≤ 4096

pub balanced_most : (k : List Todo) (stack : List ℕ) → Balanced k stack → length stack ≤ 4096
balanced_most k stack b = omega (arith, b.even, b.shallow)

pub pushed_most : (k : List Todo) (stack : List ℕ) → Pushed k stack → length stack ≤ 4097
pushed_most k stack b = omega (arith, b.over, b.shallow)

-- ---- the turns of the writer's loop

-- A subtree's value is pushed.
pub balanced_push : (k : List Todo) (stack : List ℕ) (e : ℕ) → Balanced k stack → Pushed k (e ∷ stack)
balanced_push k stack e b = record { formed = b.formed; over = omega (arith, b.even); shallow = b.shallow }

-- A pair's `ff` is written: its left side comes next, with its right side and its end left to write.
pub balanced_left : (k : List Todo) (stack : List ℕ) (h : ℕ) (r : Unfolded) → open_pairs k < 4096 → Balanced k stack → Balanced (parse r ∷ close h ∷ k) stack
balanced_left k stack h r l b = record { formed = b.formed; even = omega (arith, b.even); shallow = omega arith }

-- A right side comes next.
pub pushed_right : (k : List Todo) (stack : List ℕ) (u : Unfolded) → Pushed (parse u ∷ k) stack → Balanced k stack
pushed_right k stack u p = record { formed = formed_next u k p.formed; even = omega (arith, p.over); shallow = p.shallow }

-- A pair ends: both its values are there.
pub pushed_two : (k : List Todo) (stack : List ℕ) (h : ℕ) → Pushed (close h ∷ k) stack → 2 ≤ length stack
pushed_two k stack h p = omega (arith, p.over, parses_few k p.formed)

pub pushed_close : (k : List Todo) (stack : List ℕ) (h e : ℕ) → Pushed (close h ∷ k) stack → Pushed k (e ∷ pop2 stack)
pushed_close k [] h e p = absurd (omega (arith, pushed_two k [] h p))
pushed_close k (b ∷ []) h e p = absurd (omega (arith, pushed_two k (b ∷ []) h p))
pushed_close k (b ∷ a ∷ stack) h e p = record { formed = p.formed; over = omega (arith, p.over); shallow = omega (arith, p.shallow) }

-- ---- write and resume

-- Question 12: a pair's `ff` is written only where fewer than 4,096 pairs are open.
abbrev pub Shallow : (List Todo → List Item → Item → ℕ) → Type 0
Shallow room = (k : List Todo) (items : List Item) → room k items cons_item ≡ 0 → open_pairs k < 4096

pub room_shallow : (space : ℕ) → Shallow (room_in space)
room_shallow space k items q = go (ltb 4095 (open_pairs k)) refl q
  where
    go : (b : Bool) → ltb 4095 (open_pairs k) ≡ b → ◌≡◌ {A = ℕ} (cond b 12 (cond (ltb space (size_of items + 1)) 13 0)) 0 → open_pairs k < 4096
    go true e q = absurd (omega arith)
    go false e q = omega (arith, ltb-false 4095 (open_pairs k) e)

-- The stack in each outcome, with k left to write after what is written. An add is refused before an item.
abbrev pub DepthOK : List Todo → Outcome → Type 0
DepthOK k (done w) = Pushed k w.stack
DepthOK k (stopped j w) = Balanced j w.stack
DepthOK k (refused n w) = length w.stack ≤ 4096

depth_then : (j k : List Todo) (o : Outcome) (f : Written → Outcome) → DepthOK j o → ((w : Written) → Pushed j w.stack → DepthOK k (f w)) → DepthOK k (and_then o f)
depth_then j k (done w) f h g = g w h
depth_then j k (stopped i w) f h g = h
depth_then j k (refused n w) f h g = h

module _ (find : Cache → List ℕ → List ℕ → ℕ → ℕ → Option (List Bool)) (room : List Todo → List Item → Item → ℕ) (shallow : Shallow room) (c : Cache) where
  depth_whole : (k : List Todo) (e : ℕ) (i : Item) (w : Written) → Balanced k w.stack → DepthOK k (put_whole find room c k e i w)
  depth_whole k e i w b = go (room k w.items i)
    where
      go : (n : ℕ) → DepthOK k (and_then (put_if n i w) (λ v. done (push c e v)))
      go zero = balanced_push k w.stack e b
      go (suc n) = balanced_most k w.stack b

  depth_choose : (k : List Todo) (e : ℕ) (w : Written) (full : Outcome) → Balanced k w.stack → DepthOK k full → (o : Option (List Bool))
      → DepthOK k (choose o (λ path. put_whole find room c k e (reference_item path) w) full)
  depth_choose k e w full b f none = f
  depth_choose k e w full b f (some path) = depth_whole k e (reference_item path) w b

  -- A pair's `ff`, and then f from before its left side.
  depth_cons : (k : List Todo) (h : ℕ) (r : Unfolded) (w : Written) (f : Written → Outcome) → Balanced k w.stack
      → ((v : Written) → Balanced (parse r ∷ close h ∷ k) v.stack → DepthOK k (f v)) → DepthOK k (and_then (put find room k cons_item w) f)
  depth_cons k h r w f b g = go (room k w.items cons_item) refl
    where
      go : (n : ℕ) → room k w.items cons_item ≡ n → DepthOK k (and_then (put_if n cons_item w) f)
      go zero q =
          g (record { stack = w.stack; marked = w.marked; items = w.items ++ cons_item ∷ [] })
          (balanced_left k w.stack h r (shallow k w.items q) b)
      go (suc n) q = balanced_most k w.stack b

  pub depth_write : (u : Unfolded) (k : List Todo) (w : Written) → Balanced k w.stack → DepthOK k (write find room c u k w)
  unfolding write
  depth_write hole k w b = b
  depth_write (leaf h bytes) k w b =
      depth_choose k (atom_entry c bytes) w (put_whole find room c k (atom_entry c bytes) (atom_item bytes) w) b
      (depth_whole k (atom_entry c bytes) (atom_item bytes) w b) (find c w.marked w.stack h (atom_entry c bytes))
  depth_write (node h l r) k w b =
      depth_choose k (pair_entry c h) w
      (and_then (put find room k cons_item w) (λ w₁.
      and_then (write find room c l (parse r ∷ close h ∷ k) w₁) (λ w₂.
      and_then (write find room c r (close h ∷ k) w₂) (λ w₃. done (close_up c h w₃)))))
      b
      (depth_cons k h r w _ b (λ w₁ b₁.
      depth_then (parse r ∷ close h ∷ k) k (write find room c l (parse r ∷ close h ∷ k) w₁) _ (depth_write l (parse r ∷ close h ∷ k) w₁ b₁) (λ w₂ p₂.
      depth_then (close h ∷ k) k (write find room c r (close h ∷ k) w₂) _ (depth_write r (close h ∷ k) w₂ (pushed_right (close h ∷ k) w₂.stack r p₂)) (λ w₃ p₃.
      pushed_close k w₃.stack h (pair_entry c h) p₃))))
      (find c w.marked w.stack h (pair_entry c h))

  -- Once all is written, the stack has one value.
  pub depth_resume : (k : List Todo) (w : Written) → Pushed k w.stack → DepthOK [] (resume find room c k w)
  unfolding resume
  depth_resume [] w p = p
  depth_resume (parse u ∷ k) w p =
      depth_then k [] (write find room c u k w) (λ v. resume find room c k v) (depth_write u k w (pushed_right k w.stack u p)) (λ v q. depth_resume k v q)
  depth_resume (close h ∷ k) w p = depth_resume k (close_up c h w) (pushed_close k w.stack h (pair_entry c h) p)

  -- From an open place on.
  pub depth_add : (t : Unfolded) (k : List Todo) (w : Written) → Balanced k w.stack → DepthOK [] (resume find room c (parse t ∷ k) w)
  unfolding resume
  depth_add t k w b = depth_then k [] (write find room c t k w) (λ v. resume find room c k v) (depth_write t k w b) (λ v q. depth_resume k v q)

-- ---- sessions

-- The stack at an open place; and once the session is finished, when it has one value.
abbrev pub WaitingOK : Option (List Todo) → List ℕ → Type 0
WaitingOK none stack = Pushed [] stack
WaitingOK (some k) stack = Balanced k stack

pub waiting_most : (o : Option (List Todo)) (stack : List ℕ) → WaitingOK o stack → length stack ≤ 4096
waiting_most none stack p = omega (arith, p.over)
waiting_most (some k) stack b = balanced_most k stack b

abbrev pub StackOK : Session → Type 0
StackOK s = WaitingOK s.waiting s.written.stack

-- A session, and the sessions before the adds on the present history.
pub record InDepth (past : List Session) (s : Session) : Type 0 where
  pub now : StackOK s
  pub before : All StackOK past

pub in_depth_start : InDepth [] start
in_depth_start = record { now = record { formed = tt; even = omega arith; shallow = omega arith }; before = tt }

pub in_depth_most : (past : List Session) (s : Session) → InDepth past s → length s.written.stack ≤ 4096
in_depth_most past s d = waiting_most s.waiting s.written.stack d.now

-- An add that is refused ends the run.
abbrev pub AddedDepth : List Session → Added → Type 0
AddedDepth past (added s) = InDepth past s
AddedDepth past (turned_down n s) = length s.written.stack ≤ 4096

settle_depth : (past : List Session) (s : Session) (c : Cache) (o : Outcome) → All StackOK past → DepthOK [] o → AddedDepth past (settle s c o)
settle_depth past s c (done w) a h = record { now = h; before = a }
settle_depth past s c (stopped k w) a h = record { now = h; before = a }
settle_depth past s c (refused n w) a h = h

pub in_depth_add : (find : Cache → List ℕ → List ℕ → ℕ → ℕ → Option (List Bool)) (room : List Todo → List Item → Item → ℕ) → Shallow room
    → (past : List Session) (t : Unfolded) (s : Session) → InDepth past s → AddedDepth (past ++ s ∷ []) (add_tree find room t s)
in_depth_add find room shallow past t s d = go s.waiting d.now
  where
    go : (o : Option (List Todo)) → WaitingOK o s.written.stack → AddedDepth (past ++ s ∷ []) (add_at find room t s o)
    go none h = waiting_most none s.written.stack h
    go (some k) h =
        settle_depth (past ++ s ∷ []) s (update t s.cache) (resume find room (update t s.cache) (parse t ∷ k) s.written)
        (all_append StackOK past (s ∷ []) d.before (d.now, tt))
        (depth_add find room shallow (update t s.cache) t k s.written h)

-- A `02` and a `03` bring back the same stack.
pub in_depth_restore : (i : ℕ) (past : List Session) (u s : Session) → nth past i ≡ some u → InDepth past s → InDepth (take i past) (restored u s)
in_depth_restore i past u s q d = record { now = all_nth StackOK past i u d.before q; before = all_take StackOK i past d.before }

pub in_depth_forget : (i : ℕ) (past : List Session) (u s : Session) → nth past i ≡ some u → InDepth past s → InDepth (take i past) u
in_depth_forget i past u s q d = record { now = all_nth StackOK past i u d.before q; before = all_take StackOK i past d.before }

-- ---- a run

module _ (measure : List Bool → ℕ) (space : ℕ) (f : File) where
  abbrev EndDepth : Session → Type 0
  EndDepth s = length s.written.stack ≤ 4096

  added_depth : (left : ℕ) (past : List Session) (a : Added) → AddedDepth past a → AddKept measure space f (λ left. InDepth) EndDepth left past a
  added_depth left past (added s) h = h
  added_depth left past (turned_down n s) h = h

  depth_steps : StepsKept measure space f (λ left. InDepth) EndDepth
  depth_steps = record {
    stop_kept = λ left past s d. in_depth_most past s d;
    add_kept = λ g left past s k w l d.
        added_depth left (past ++ s ∷ []) (add_handle measure space f g s)
        (in_depth_add (find_in measure) (room_in space) (room_shallow space) past (unfolded f g) s d);
    restore_kept = λ i left past u s q d. in_depth_restore i past u s q d;
    forget_kept = λ i left past u s q d. in_depth_forget i past u s q d;
  }

  -- The stack of the session where a run ends.
  pub run_depth : (steps : List Step) (st : State) → InDepth st.past st.now → length (run_steps measure space f steps st).last.written.stack ≤ 4096
  run_depth = run_kept measure space f (λ left. InDepth) EndDepth depth_steps

  pub run_stack : (steps : List Step) → length (run_steps measure space f steps at_start).last.written.stack ≤ 4096
  run_stack steps = run_depth steps at_start in_depth_start
