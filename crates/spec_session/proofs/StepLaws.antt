-- What a run of steps comes to: the words of each step, quotes and their taking, how a run ends, the adds that survive, and the finish.
-- Assumes nothing.
use Prim.Native.Nat.{ℕ, zero, suc, ◌+◌, ◌*◌, ◌%◌, ◌≤◌, ◌<◌}
use Rattle.std.specs.Prelude.{◌≡◌, Bool, true, false, ◌⊎◌, ◌≢◌, ltb, take}
use Rattle.std.proofs.Math.Path.{refl, sym, ap, subst}
use Rattle.std.proofs.Common.{◌∙◌, inl, inr, arith, length-take, ltb-false, le-ltb}
use mathlib.Core.List.{List, [], ◌∷◌, ◌++◌, map}
use Rattle.std.proofs.Math.Option.{Option, none, some, none-ne-some, some-injective}
use Rattle.std.proofs.Math.ListN.{length, length-append}
use Rattle.words.specs.Choice.{by_lt, clash}
use Rattle.words.specs.Lists.{All}
use Rattle.words.specs.Words.{at}
use Rattle.spec_session.specs.File.{File, Step, add, restore, forget, quote, take_quote}
use Rattle.spec_session.specs.Unfold.{Unfolded, unfolded}
use Rattle.spec_session.specs.Survivors.{survive, survivors}
use Rattle.spec_session.specs.Premises.{NoRestore, NoQuote, NoUndo, IfAny, number_after_finish}
use Rattle.spec_session.specs.Items.{size_of}
use Rattle.spec_session.specs.Writer.{Todo, Session, start, Added, added, turned_down, onward, add_at, add_all}
use Rattle.spec_session.specs.Trees.{nth}
use Rattle.spec_session.proofs.Trees.{both_more, both_fewer}
use Rattle.spec_session.specs.FindPath.{find_in}
use Rattle.spec_session.proofs.Theorem.{adds_end}
use Rattle.spec_session.specs.Steps.{room_in, finished_bit, word_of, words_of, State, at_start, Stepped, went, halted, unless_full, after_add, after_quote}
use Rattle.spec_session.specs.Steps.{after_restore, after_forget, add_handle, add_step, take_step, run_step, Run, with_words, after_step, run_steps}

-- Step k has the words 3 × k to 3 × k + 2.
abbrev pub words_at : List ℕ → ℕ → List ℕ
words_at ws k = at ws (3 * k) ∷ at ws (3 * k + 1) ∷ at ws (3 * k + 2) ∷ []

-- The words of later steps stand three further on.
words_later : (s : Session) (ws : List ℕ) (k : ℕ) → words_at (words_of s ++ ws) (suc k) ≡ words_at ws k
words_later s ws k = cc (further (3 * suc k) (3 * k) (omega arith), further (3 * suc k + 1) (3 * k + 1) (omega arith), further (3 * suc k + 2) (3 * k + 2) (omega arith))
  where
    further : (i j : ℕ) → i ≡ suc (suc (suc j)) → at (words_of s ++ ws) i ≡ at ws j
    further i j e = subst (λ (n : ℕ). at (words_of s ++ ws) n ≡ at ws j) (sym e) refl

not_went : {A : Type 0} {w : List ℕ} {t : State} {n : ℕ} {s : Session} → ◌≡◌ {A = Stepped} (halted n s) (went w t) → A
not_went e = clash cc

-- By questions 9 and 10.
pub by_full : (P : Stepped → Type 0) (o : Option (List Todo)) (full : Bool) (s : Session) (x : Stepped) → P (halted 9 s) → P (halted 10 s)
    → ((k : List Todo) → o ≡ some k → full ≡ false → P x) → P (unless_full o full s x)
by_full P none full s x p q g = p
by_full P (some k) true s x p q g = q
by_full P (some k) false s x p q g = g k refl refl

module _ (measure : List Bool → ℕ) (space : ℕ) (f : File) where
  abbrev step : Step → State → Stepped
  step = run_step measure space f

  abbrev run : List Step → State → Run
  run = run_steps measure space f

  -- ---- one step

  -- The words of a step are those of the session after it, and then no quote is open; unless it is a quote.
  abbrev pub Plain : Stepped → Type 0
  Plain (went w t) = (w ≡ words_of t.now) × (t.quoted ≡ none)
  Plain (halted n s) = Unit {0}

  plain_add : (h : ℕ) (st : State) → Plain (add_step measure space f h st)
  plain_add h st = by_full Plain st.now.waiting (ltb 15 (length st.past)) st.now _ tt tt (λ k p q. go (add_handle measure space f h st.now))
    where
      go : (a : Added) → Plain (after_add a st)
      go (turned_down n s) = tt
      go (added s) = (refl, refl)

  plain_restore : (o : Option Session) (n : ℕ) (st : State) → Plain (after_restore o n st)
  plain_restore none n st = tt
  plain_restore (some b) n st = (refl, refl)

  plain_forget : (o : Option Session) (n : ℕ) (st : State) → Plain (after_forget o n st)
  plain_forget none n st = tt
  plain_forget (some b) n st = (refl, refl)

  plain_take : (o : Option ℕ) (st : State) → Plain (take_step measure space f o st)
  plain_take none st = tt
  plain_take (some h) st = plain_add h st

  pub plain_step : (x : Step) → NoQuote x → (st : State) → Plain (step x st)
  plain_step (add h) q st = plain_add h st
  plain_step (restore n) q st = plain_restore (nth st.past n) n st
  plain_step (forget n) q st = plain_forget (nth st.past n) n st
  plain_step (quote h) q st = absurd q
  plain_step take_quote q st = plain_take st.quoted st

  -- An add whose questions get yes.
  pub add_went : (h : ℕ) (st : State) (k : List Todo) (s : Session) → st.now.waiting ≡ some k → ltb 15 (length st.past) ≡ false
      → add_handle measure space f h st.now ≡ added s → add_step measure space f h st ≡ went (words_of s) (record { now = s; past = st.past ++ st.now ∷ []; quoted = none })
  add_went h st k s p q r = λ i. unless_full (p i) (q i) st.now (after_add (r i) st)

  -- ---- quotes

  -- The state with this quote open, or none, and all else as it is.
  abbrev pub with_open : Option ℕ → State → State
  with_open q st = record { now = st.now; past = st.past; quoted = q }

  abbrev pub opened : (h : ℕ) → State → State
  opened h st = with_open (some h) st

  -- It changes no step but a taking.
  open_unseen : (x : Step) → x ≢ take_quote → (q : Option ℕ) (st : State) → step x (with_open q st) ≡ step x st
  open_unseen (add g) n q st =
      ap (unless_full st.now.waiting (ltb 15 (length st.past)) st.now) (go (add_handle measure space f g st.now))
    where
      go : (a : Added) → after_add a (with_open q st) ≡ after_add a st
      go (added s) = refl
      go (turned_down m s) = refl
  open_unseen (restore i) n q st = go (nth st.past i)
    where
      go : (o : Option Session) → after_restore o i (with_open q st) ≡ after_restore o i st
      go none = refl
      go (some b) = refl
  open_unseen (forget i) n q st = go (nth st.past i)
    where
      go : (o : Option Session) → after_forget o i (with_open q st) ≡ after_forget o i st
      go none = refl
      go (some b) = refl
  open_unseen (quote g) n q st =
      ap (unless_full st.now.waiting (ltb 15 (length st.past)) st.now) (go (add_handle measure space f g st.now))
    where
      go : (a : Added) → after_quote g a (with_open q st) ≡ after_quote g a st
      go (added s) = refl
      go (turned_down m s) = refl
  open_unseen take_quote n q st = absurd (n refl)

  -- So with all that follows, where the next step, if there is one, is no taking.
  pub run_unseen : (xs : List Step) → IfAny (λ x. x ≢ take_quote) (nth xs 0) → (q : Option ℕ) (st : State) → run xs (with_open q st) ≡ run xs st
  unfolding run_steps
  run_unseen [] n q st = refl
  run_unseen (x ∷ xs) n q st = ap (λ (y : Stepped). after_step y (λ u. run xs u)) (open_unseen x n q st)

  -- What a quote comes to, from what its add would come to.
  abbrev pub as_quote : (h : ℕ) → State → Stepped → Stepped
  as_quote h st (went w t) = went w (opened h st)
  as_quote h st (halted n s) = halted n st.now

  -- A QUOTE BY ITS ADD. It has the words of the add or its number, and the session and the sessions before it stay as they were.
  pub quote_by_add : (h : ℕ) (st : State) → step (quote h) st ≡ as_quote h st (step (add h) st)
  quote_by_add h st = go st.now.waiting (ltb 15 (length st.past)) (add_handle measure space f h st.now)
    where
      go : (o : Option (List Todo)) (full : Bool) (a : Added)
          → unless_full o full st.now (after_quote h a st) ≡ as_quote h st (unless_full o full st.now (after_add a st))
      go none full a = refl
      go (some k) true a = refl
      go (some k) false (added s) = refl
      go (some k) false (turned_down n s) = refl

  -- A refused quote: "Numbers 9, 10, 12 and 13 are given at the quote, and output and size are then those before it."
  pub quote_refused : (h : ℕ) (st : State) (n : ℕ) (s : Session) → step (quote h) st ≡ halted n s
      → (s ≡ st.now) × ((t : Session) × (step (add h) st ≡ halted n t))
  quote_refused h st n s e = go (step (add h) st) (sym (quote_by_add h st) ∙ e)
    where
      go : (y : Stepped) → as_quote h st y ≡ halted n s → (s ≡ st.now) × ((t : Session) × (y ≡ halted n t))
      go (went w t) e = not_went (sym e)
      go (halted m t) e = (cc, (t, cc))

  -- THE TAKING OF A QUOTE. A quote was answered with the words w: then its taking is never refused, has the same words, and leaves what the add would have left
  -- in the place of the quote.
  pub record Takes (h : ℕ) (st t : State) (w : List ℕ) : Type 0 where
    pub opens : t ≡ opened h st
    pub after : State
    pub taken : step take_quote t ≡ went w after
    pub as_added : step (add h) st ≡ went w after

  pub quote_taken : (h : ℕ) (st t : State) (w : List ℕ) → step (quote h) st ≡ went w t → Takes h st t w
  quote_taken h st t w e = go (step (add h) st) refl (sym (quote_by_add h st) ∙ e)
    where
      go : (y : Stepped) → step (add h) st ≡ y → as_quote h st y ≡ went w t → Takes h st t w
      go (halted n s) p e = not_went e
      go (went v u) p e =
          let state_is : opened h st ≡ t = cc in
          let goes : step (add h) st ≡ went w u = p ∙ cc in
          let taken : step take_quote (opened h st) ≡ went w u = open_unseen (add h) (λ q. clash cc) (some h) st ∙ goes in
          record { opens = sym state_is; after = u; taken = subst (λ (x : State). step take_quote x ≡ went w u) state_is taken; as_added = goes }

  -- A DROPPED QUOTE. Any step but a taking comes to what it would have come to without the quote.
  pub quote_dropped : (x : Step) → x ≢ take_quote → (h : ℕ) (st t : State) (w : List ℕ) → step (quote h) st ≡ went w t → step x t ≡ step x st
  quote_dropped x n h st t w e = ap (step x) (quote_taken h st t w e).opens ∙ open_unseen x n (some h) st

  -- So with all that follows. A quote and its taking are one add, after the quote's words; a quote that is not taken leaves the rest of the run as it is.
  pub quote_take_run : (h : ℕ) (st t : State) (w : List ℕ) (xs : List Step) → step (quote h) st ≡ went w t
      → run (quote h ∷ take_quote ∷ xs) st ≡ with_words w (run (add h ∷ xs) st)
  unfolding run_steps
  quote_take_run h st t w xs e =
      let k = quote_taken h st t w e in
      ap (λ (y : Stepped). after_step y (λ u. run (take_quote ∷ xs) u)) e
      ∙ ap (λ (y : Stepped). with_words w (after_step y (λ u. run xs u))) (k.taken ∙ sym k.as_added)

  pub quote_drop_run : (h : ℕ) (st t : State) (w : List ℕ) (xs : List Step) → IfAny (λ x. x ≢ take_quote) (nth xs 0) → step (quote h) st ≡ went w t
      → run (quote h ∷ xs) st ≡ with_words w (run xs st)
  unfolding run_steps
  quote_drop_run h st t w xs n e =
      ap (λ (y : Stepped). after_step y (λ u. run xs u)) e
      ∙ ap (with_words w) (ap (run xs) (quote_taken h st t w e).opens ∙ run_unseen xs n (some h) st)

  -- ---- how a run ends

  abbrev pub onto : Stepped → (State → Option State) → Option State
  onto (went w t) next = next t
  onto (halted n s) next = none

  -- Where steps lead to, if all of them are finished.
  abbrev pub walk : List Step → State → Option State
  walk [] st = some st
  walk (x ∷ xs) st = onto (step x st) (walk xs)

  abbrev pub EndsAt : Option Step → State → (number : ℕ) → (last : Session) → Type 0
  EndsAt none st n s = (n ≡ 0) × (s ≡ st.now)
  EndsAt (some x) st n s = step x st ≡ halted n s

  -- The words of a step are a session's.
  abbrev Told : Stepped → Type 0
  Told (went w t) = (s : Session) × (w ≡ words_of s)
  Told (halted n s) = Unit {0}

  told_plain : (y : Stepped) → Plain y → Told y
  told_plain (went w t) p = (t.now, p.0)
  told_plain (halted n s) p = tt

  told_step : (x : Step) (st : State) → Told (step x st)
  told_step (add h) st = told_plain (step (add h) st) (plain_step (add h) tt st)
  told_step (restore n) st = told_plain (step (restore n) st) (plain_step (restore n) tt st)
  told_step (forget n) st = told_plain (step (forget n) st) (plain_step (forget n) tt st)
  told_step (quote h) st = subst Told (sym (quote_by_add h st)) (go (step (add h) st) (plain_step (add h) tt st))
    where
      go : (y : Stepped) → Plain y → Told (as_quote h st y)
      go (went w t) p = (t.now, p.0)
      go (halted n s) p = tt
  told_step take_quote st = told_plain (step take_quote st) (plain_step take_quote tt st)

  -- The finished steps lead to a state, at which no step is left or the next one is refused. Each has three words.
  pub record Ends (xs : List Step) (st : State) (r : Run) : Type 0 where
    pub reached : State
    pub few : r.steps ≤ length xs
    pub three : length r.words ≡ 3 * r.steps
    pub walked : walk (take r.steps xs) st ≡ some reached
    pub ends : EndsAt (nth xs r.steps) reached r.number r.last

  pub run_ends : (xs : List Step) (st : State) → Ends xs st (run xs st)
  unfolding run_steps
  run_ends [] st = record { reached = st; few = omega arith; three = omega arith; walked = refl; ends = (refl, refl) }
  run_ends (x ∷ xs) st = go (step x st) refl (told_step x st) (λ t. run_ends xs t)
    where
      go : (y : Stepped) → step x st ≡ y → Told y → ((t : State) → Ends xs t (run xs t)) → Ends (x ∷ xs) st (after_step y (λ t. run xs t))
      go (went w t) e d ih =
          let m = ih t in
          record {
            reached = m.reached;
            few = omega (arith, m.few);
            three = omega (arith, length-append w (run xs t).words, ap length d.1, m.three);
            walked = subst (λ (y : Stepped). onto y (walk (take (run xs t).steps xs)) ≡ some m.reached) (sym e) m.walked;
            ends = m.ends;
          }
      go (halted n s) e d ih = record { reached = st; few = omega arith; three = omega arith; walked = refl; ends = e }

  -- A step that is finished: where it starts and where it leads to, and its words.
  pub record Taken (xs : List Step) (st : State) (k : ℕ) (r : Run) : Type 0 where
    pub kind : Step
    pub is : nth xs k ≡ some kind
    pub before : State
    pub after : State
    pub words : List ℕ
    pub goes : step kind before ≡ went words after
    pub walked : walk (take k xs) st ≡ some before
    pub onward_to : walk (take (suc k) xs) st ≡ some after
    pub words_are : words_at r.words k ≡ words

  pub run_taken : (xs : List Step) (st : State) (k : ℕ) → k < (run xs st).steps → Taken xs st k (run xs st)
  unfolding run_steps
  run_taken [] st k l = absurd (omega arith)
  run_taken (x ∷ xs) st k l = go (step x st) refl (told_step x st) k l (λ t j. run_taken xs t j)
    where
      go : (y : Stepped) → step x st ≡ y → Told y → (k : ℕ) → k < (after_step y (λ t. run xs t)).steps
          → ((t : State) (j : ℕ) → j < (run xs t).steps → Taken xs t j (run xs t)) → Taken (x ∷ xs) st k (after_step y (λ t. run xs t))
      go (halted n s) e d k l ih = absurd (omega arith)
      go (went w t) e d zero l ih =
          record {
            kind = x;
            is = refl;
            before = st;
            after = t;
            words = w;
            goes = e;
            walked = refl;
            onward_to = subst (λ (y : Stepped). onto y (walk []) ≡ some t) (sym e) refl;
            words_are = subst (λ (v : List ℕ). words_at (v ++ (run xs t).words) 0 ≡ v) (sym d.1) refl;
          }
      go (went w t) e d (suc k) l ih =
          let m = ih t k (omega arith) in
          record {
            kind = m.kind;
            is = m.is;
            before = m.before;
            after = m.after;
            words = m.words;
            goes = m.goes;
            walked = subst (λ (y : Stepped). onto y (walk (take k xs)) ≡ some m.before) (sym e) m.walked;
            onward_to = subst (λ (y : Stepped). onto y (walk (take (suc k) xs)) ≡ some m.after) (sym e) m.onward_to;
            words_are = ap (λ (v : List ℕ). words_at (v ++ (run xs t).words) (suc k)) d.1 ∙ words_later d.0 (run xs t).words k ∙ m.words_are;
          }

  -- ---- what holds of every state that is reached

  abbrev pub Goes : (State → Type 0) → Stepped → Type 0
  Goes P (went w t) = P t
  Goes P (halted n s) = Unit {0}

  pub walk_keeps : (P : State → Type 0) → ((x : Step) (st : State) → P st → Goes P (step x st)) → (xs : List Step) (st t : State) → P st → walk xs st ≡ some t → P t
  walk_keeps P g [] st t p e = subst P (some-injective st t e) p
  walk_keeps P g (x ∷ xs) st t p e = go (step x st) (g x st p) e (λ u. walk_keeps P g xs u t)
    where
      go : (y : Stepped) → Goes P y → onto y (walk xs) ≡ some t → ((u : State) → P u → walk xs u ≡ some t → P t) → P t
      go (went w u) q e ih = ih u q e
      go (halted n s) q e ih = absurd (none-ne-some t e)

  -- The add of the open quote would not be refused.
  abbrev pub Answered : State → Type 0
  Answered st = (h : ℕ) → st.quoted ≡ some h → (w : List ℕ) × (t : State) × (add_step measure space f h st ≡ went w t)

  none_open : (y : Stepped) → Plain y → Goes Answered y
  none_open (went w t) p = λ h q. absurd (none-ne-some h (sym p.1 ∙ q))
  none_open (halted n s) p = tt

  answered_step : (x : Step) (st : State) → Goes Answered (step x st)
  answered_step (add g) st = none_open (step (add g) st) (plain_step (add g) tt st)
  answered_step (restore n) st = none_open (step (restore n) st) (plain_step (restore n) tt st)
  answered_step (forget n) st = none_open (step (forget n) st) (plain_step (forget n) tt st)
  answered_step (quote g) st = go (step (quote g) st) refl
    where
      go : (y : Stepped) → step (quote g) st ≡ y → Goes Answered y
      go (went w t) e =
          let k = quote_taken g st t w e in
          λ h q. (w, k.after, subst (λ (o : Option ℕ). take_step measure space f o t ≡ went w k.after) q k.taken)
      go (halted n s) e = tt
  answered_step take_quote st = none_open (step take_quote st) (plain_step take_quote tt st)

  pub reached_answered : (xs : List Step) (st : State) → walk xs at_start ≡ some st → Answered st
  reached_answered xs st e = walk_keeps Answered (λ x u p. answered_step x u) xs at_start st (λ h q. absurd (none-ne-some h q)) e

  take_refused : (st : State) (n : ℕ) (s : Session) → Answered st → step take_quote st ≡ halted n s → (n ≡ 17) × (st.quoted ≡ none) × (s ≡ st.now)
  take_refused st n s a = go st.quoted refl
    where
      go : (o : Option ℕ) → st.quoted ≡ o → take_step measure space f o st ≡ halted n s → (n ≡ 17) × (o ≡ none) × (s ≡ st.now)
      go none q e = (cc, refl, cc)
      go (some h) q e = not_went (sym e ∙ (a h q).2)

  -- "17, the only number of a `05`": where steps lead to, a `05` is refused only if no quote is open.
  pub take_17 : (xs : List Step) (st : State) (n : ℕ) (s : Session) → walk xs at_start ≡ some st → step take_quote st ≡ halted n s
      → (n ≡ 17) × (st.quoted ≡ none) × (s ≡ st.now)
  take_17 xs st n s e = take_refused st n s (reached_answered xs st e)

  -- ---- the adds that survive

  abbrev pub adds_of : List ℕ → Added
  adds_of hs = add_all (find_in measure) (room_in space) (map (unfolded f) hs) start

  -- The session is that of the adds of these handles, and each session before an add is that of the adds before it.
  pub record History (hs : List ℕ) (st : State) : Type 0 where
    pub long : length st.past ≡ length hs
    pub now_is : adds_of hs ≡ added st.now
    pub past_are : (i : ℕ) (u : Session) → nth st.past i ≡ some u → adds_of (take i hs) ≡ added u

  history_start : History [] at_start
  history_start = record { long = refl; now_is = refl; past_are = λ i u q. absurd (none-ne-some u q) }

  map_end : (hs : List ℕ) (h : ℕ) → map (unfolded f) (hs ++ h ∷ []) ≡ map (unfolded f) hs ++ unfolded f h ∷ []
  map_end [] h = refl
  map_end (g ∷ hs) h = ap (λ (ts : List Unfolded). unfolded f g ∷ ts) (map_end hs h)

  -- One add more, taken or refused.
  one_more : (hs : List ℕ) (h : ℕ) (s : Session) (a : Added) → adds_of hs ≡ added s → add_handle measure space f h s ≡ a
      → adds_of (hs ++ h ∷ []) ≡ onward (find_in measure) (room_in space) a (λ r. added r)
  one_more hs h s a e q =
      ap (λ (ts : List Unfolded). add_all (find_in measure) (room_in space) ts start) (map_end hs h)
      ∙ adds_end (find_in measure) (room_in space) (map (unfolded f) hs) (unfolded f h) start s e
      ∙ ap (λ (b : Added). onward (find_in measure) (room_in space) b (λ r. added r)) q

  -- What a step makes of the history, and of the survivors of the steps from it on, where q is the handle of the open quote.
  abbrev StepHistory : Step → List ℕ → (q : Option ℕ) → Stepped → Type 0
  StepHistory x hs q (went w t) = (hs' : List ℕ) × History hs' t × ((rest : List Step) → survive (x ∷ rest) hs q ≡ survive rest hs' t.quoted)
  StepHistory x hs q (halted n s) = Unit {0}

  history_add : (x : Step) (g : ℕ) (hs : List ℕ) (q : Option ℕ) (st : State) → ((rest : List Step) → survive (x ∷ rest) hs q ≡ survive rest (hs ++ g ∷ []) none)
      → History hs st → StepHistory x hs q (add_step measure space f g st)
  history_add x g hs q st r h =
      by_full (StepHistory x hs q) st.now.waiting (ltb 15 (length st.past)) st.now _ tt tt (λ k w e. go (add_handle measure space f g st.now) refl)
    where
      go : (a : Added) → add_handle measure space f g st.now ≡ a → StepHistory x hs q (after_add a st)
      go (turned_down n s) e = tt
      go (added s) e = (
        hs ++ g ∷ [],
        record {
          long = omega (arith, length-append hs (g ∷ []), length-append st.past (st.now ∷ []), h.long);
          now_is = one_more hs g st.now (added s) h.now_is e;
          past_are = both_more (λ (l : List ℕ) (u : Session). adds_of l ≡ added u) hs st.past g st.now h.long h.past_are h.now_is;
        },
        r,
      )

  history_forget : (n : ℕ) (hs : List ℕ) (q : Option ℕ) (st : State) (o : Option Session) → nth st.past n ≡ o → History hs st
      → StepHistory (forget n) hs q (after_forget o n st)
  history_forget n hs q st none e h = tt
  history_forget n hs q st (some b) e h = (
    take n hs,
    record {
      long = omega (arith, length-take n hs, length-take n st.past, h.long);
      now_is = h.past_are n b e;
      past_are = both_fewer (λ (l : List ℕ) (u : Session). adds_of l ≡ added u) n hs st.past h.long h.past_are;
    },
    λ rest. refl,
  )

  history_quote : (g : ℕ) (hs : List ℕ) (q : Option ℕ) (st : State) (y : Stepped) → History hs st → StepHistory (quote g) hs q (as_quote g st y)
  history_quote g hs q st (went w t) h = (hs, record { long = h.long; now_is = h.now_is; past_are = h.past_are }, λ rest. refl)
  history_quote g hs q st (halted n s) h = tt

  history_take : (hs : List ℕ) (q : Option ℕ) (st : State) → History hs st → StepHistory take_quote hs q (take_step measure space f q st)
  history_take hs none st h = tt
  history_take hs (some g) st h = history_add take_quote g hs (some g) st (λ rest. refl) h

  history_step : (x : Step) → NoRestore x → (hs : List ℕ) (st : State) → History hs st → StepHistory x hs st.quoted (step x st)
  history_step (add g) n hs st h = history_add (add g) g hs st.quoted st (λ rest. refl) h
  history_step (restore i) n hs st h = absurd n
  history_step (forget i) n hs st h = history_forget i hs st.quoted st (nth st.past i) refl h
  history_step (quote g) n hs st h =
      subst (StepHistory (quote g) hs st.quoted) (sym (quote_by_add g st)) (history_quote g hs st.quoted st (step (add g) st) h)
  history_step take_quote n hs st h = history_take hs st.quoted st h

  -- Steps with no `02`, all finished, lead to the session of the adds that survive.
  pub history_walk : (xs : List Step) → All NoRestore xs → (hs : List ℕ) (st t : State) → History hs st → walk xs st ≡ some t
      → History (survive xs hs st.quoted) t
  history_walk [] n hs st t h e = subst (History hs) (some-injective st t e) h
  history_walk (x ∷ xs) n hs st t h e = go (step x st) (history_step x n.0 hs st h) e (λ hs' u. history_walk xs n.1 hs' u t)
    where
      go : (y : Stepped) → StepHistory x hs st.quoted y → onto y (walk xs) ≡ some t
          → ((hs' : List ℕ) (u : State) → History hs' u → walk xs u ≡ some t → History (survive xs hs' u.quoted) t)
          → History (survive (x ∷ xs) hs st.quoted) t
      go (went w u) k e ih = subst (λ (l : List ℕ). History l t) (sym (k.2 xs)) (ih k.0 u k.1 e)
      go (halted m s) k e ih = absurd (none-ne-some t e)

  pub walked_history : (xs : List Step) (t : State) → All NoRestore xs → walk xs at_start ≡ some t → History (survivors xs) t
  walked_history xs t n e = history_walk xs n [] at_start t history_start e

  -- THE SURVIVORS. After steps with no `02` the session is what the adds that survive make of a fresh one.
  pub forget_survivors : (xs : List Step) (t : State) → All NoRestore xs → walk xs at_start ≡ some t
      → add_all (find_in measure) (room_in space) (map (unfolded f) (survivors xs)) start ≡ added t.now
  forget_survivors xs t n e = (walked_history xs t n e).now_is

  -- ---- the session of the adds that survive, as a run

  -- At most 16 adds are on the history.
  abbrev Few : State → Type 0
  Few st = length st.past ≤ 16

  few_add : (h : ℕ) (st : State) → Goes Few (add_step measure space f h st)
  few_add h st =
      by_full (Goes Few) st.now.waiting (ltb 15 (length st.past)) st.now _ tt tt (λ k w q. go q (add_handle measure space f h st.now))
    where
      go : ltb 15 (length st.past) ≡ false → (a : Added) → Goes Few (after_add a st)
      go q (turned_down n s) = tt
      go q (added s) = omega (arith, length-append st.past (st.now ∷ []), ltb-false 15 (length st.past) q)

  few_step : (x : Step) (st : State) → Few st → Goes Few (step x st)
  few_step (add h) st l = few_add h st
  few_step (restore n) st l = go (nth st.past n)
    where
      go : (o : Option Session) → Goes Few (after_restore o n st)
      go none = tt
      go (some b) = omega (arith, length-take n st.past)
  few_step (forget n) st l = go (nth st.past n)
    where
      go : (o : Option Session) → Goes Few (after_forget o n st)
      go none = tt
      go (some b) = omega (arith, length-take n st.past)
  few_step (quote h) st l = subst (Goes Few) (sym (quote_by_add h st)) (go (step (add h) st))
    where
      go : (y : Stepped) → Goes Few (as_quote h st y)
      go (went w t) = l
      go (halted n s) = tt
  few_step take_quote st l = go st.quoted
    where
      go : (o : Option ℕ) → Goes Few (take_step measure space f o st)
      go none = tt
      go (some h) = few_add h st

  -- A run of so many steps that none refuses, up to the session s.
  pub record Through (n : ℕ) (s : Session) (r : Run) : Type 0 where
    pub steps_are : r.steps ≡ n
    pub number_is : r.number ≡ 0
    pub last_is : r.last ≡ s

  adds_run : (hs : List ℕ) (st : State) (s : Session) → add_all (find_in measure) (room_in space) (map (unfolded f) hs) st.now ≡ added s
      → length st.past + length hs ≤ 16 → Through (length hs) s (run (map add hs) st)
  unfolding run_steps
  adds_run [] st s e l = record { steps_are = refl; number_is = refl; last_is = cc }
  adds_run (h ∷ hs) st s e l =
      go st.now.waiting refl (add_handle measure space f h st.now) refl e (λ u q m. adds_run hs u s q m)
    where
      go : (o : Option (List Todo)) → st.now.waiting ≡ o → (a : Added) → add_handle measure space f h st.now ≡ a
          → onward (find_in measure) (room_in space) a (add_all (find_in measure) (room_in space) (map (unfolded f) hs)) ≡ added s
          → ((u : State) → add_all (find_in measure) (room_in space) (map (unfolded f) hs) u.now ≡ added s → length u.past + length hs ≤ 16
          → Through (length hs) s (run (map add hs) u))
          → Through (suc (length hs)) s (after_step (step (add h) st) (λ u. run (map add hs) u))
      go o w (turned_down n t) q e ih = clash cc
      go none w (added t) q e ih =
          let r : add_handle measure space f h st.now ≡ turned_down 9 st.now = ap (add_at (find_in measure) (room_in space) (unfolded f h) st.now) w in
          clash cc
      go (some k) w (added t) q e ih =
          let u : State = record { now = t; past = st.past ++ st.now ∷ []; quoted = none } in
          let m = ih u e (omega (arith, length-append st.past (st.now ∷ []))) in
          subst (λ (y : Stepped). Through (suc (length hs)) s (after_step y (λ v. run (map add hs) v)))
          (sym (add_went h st k t w (le-ltb 15 (length st.past) (omega arith)) q))
          (record { steps_are = ap suc m.steps_are; number_is = m.number_is; last_is = m.last_is })

  -- "A session whose only undo steps are `03` must read back as the session of the adds that survive": the run of these adds alone goes through, to the same
  -- session.
  pub survivors_run : (xs : List Step) (t : State) → All NoRestore xs → walk xs at_start ≡ some t
      → Through (length (survivors xs)) t.now (run (map add (survivors xs)) at_start)
  survivors_run xs t n e =
      let h = walked_history xs t n e in
      adds_run (survivors xs) at_start t.now h.now_is (omega (arith, h.long, walk_keeps Few few_step xs at_start t (omega arith) e))

  -- A refused step leaves the session, unless it is an add that 12 or 13 refused.
  abbrev pub Leaves : Step → State → ℕ → Session → Type 0
  Leaves x st n s = (s ≡ st.now) ⊎ ((h : ℕ) × (x ≡ add h) × (add_handle measure space f h st.now ≡ turned_down n s))

  pub refused_leaves : (x : Step) (st : State) (n : ℕ) (s : Session) → Answered st → step x st ≡ halted n s → Leaves x st n s
  refused_leaves (add h) st n s a = go st.now.waiting (ltb 15 (length st.past)) (add_handle measure space f h st.now) refl
    where
      go : (o : Option (List Todo)) (full : Bool) (b : Added) → add_handle measure space f h st.now ≡ b
          → unless_full o full st.now (after_add b st) ≡ halted n s → Leaves (add h) st n s
      go none full b q e = inl (cc)
      go (some k) true b q e = inl (cc)
      go (some k) false (added t) q e = not_went (sym e)
      go (some k) false (turned_down m t) q e = inr (h, refl, q ∙ cc)
  refused_leaves (restore i) st n s a = go (nth st.past i)
    where
      go : (o : Option Session) → after_restore o i st ≡ halted n s → Leaves (restore i) st n s
      go none e = inl (cc)
      go (some b) e = not_went (sym e)
  refused_leaves (forget i) st n s a = go (nth st.past i)
    where
      go : (o : Option Session) → after_forget o i st ≡ halted n s → Leaves (forget i) st n s
      go none e = inl (cc)
      go (some b) e = not_went (sym e)
  refused_leaves (quote h) st n s a = λ e. inl (quote_refused h st n s e).0
  refused_leaves take_quote st n s a = λ e. inl (take_refused st n s a e).2

  -- A run whose finished steps have no `02` among them ends in the session of the adds that survive them; or within the next add, which 12 or 13 refused,
  -- with the whole items written.
  pub data Survived (xs : List Step) (r : Run) : Type 0 where
    whole : adds_of (survivors (take r.steps xs)) ≡ added r.last → Survived xs r
    within : (h : ℕ) → nth xs r.steps ≡ some (add h) → adds_of (survivors (take r.steps xs) ++ h ∷ []) ≡ turned_down r.number r.last
        → Survived xs r

  pub run_survives : (xs : List Step) → All NoRestore (take (run xs at_start).steps xs) → Survived xs (run xs at_start)
  run_survives xs n = go (run xs at_start) (run_ends xs at_start) n
    where
      go : (r : Run) (m : Ends xs at_start r) → All NoRestore (take r.steps xs) → Survived xs r
      go r m n = by_step (nth xs r.steps) refl m.ends
        where
          hist : History (survivors (take r.steps xs)) m.reached
          hist = walked_history (take r.steps xs) m.reached n m.walked

          same : r.last ≡ m.reached.now → Survived xs r
          same e = whole (hist.now_is ∙ ap added (sym e))

          by_leaves : (x : Step) → nth xs r.steps ≡ some x → Leaves x m.reached r.number r.last → Survived xs r
          by_leaves x q (inl e) = same e
          by_leaves x q (inr (h, e, t)) =
              within h (q ∙ ap some e) (one_more (survivors (take r.steps xs)) h m.reached.now (turned_down r.number r.last) hist.now_is t)

          by_step : (o : Option Step) → nth xs r.steps ≡ o → EndsAt o m.reached r.number r.last → Survived xs r
          by_step none q e = same e.1
          by_step (some x) q e =
              by_leaves x q
              (refused_leaves x m.reached r.number r.last (reached_answered (take r.steps xs) m.reached m.walked) e)

  -- ---- a finished session

  -- Nothing is left to write, and no quote is open.
  abbrev NothingOpen : State → Type 0
  NothingOpen st = (st.now.waiting ≡ none) × (st.quoted ≡ none)

  add_finished : (h : ℕ) (st : State) → st.now.waiting ≡ none → add_step measure space f h st ≡ halted 9 st.now
  add_finished h st w = λ i. unless_full (w i) (ltb 15 (length st.past)) st.now (after_add (add_handle measure space f h st.now) st)

  -- It takes no step but an undo.
  finished_refuses : (x : Step) (st : State) → NoUndo x → NothingOpen st → step x st ≡ halted (number_after_finish (some x)) st.now
  finished_refuses (add h) st u w = add_finished h st w.0
  finished_refuses (restore i) st u w = absurd u
  finished_refuses (forget i) st u w = absurd u
  finished_refuses (quote h) st u w = quote_by_add h st ∙ ap (as_quote h st) (add_finished h st w.0)
  finished_refuses take_quote st u w = λ i. take_step measure space f (w.1 i) st

  halts_so : {y : Stepped} {m n : ℕ} {s t : Session} → y ≡ halted m t → y ≡ halted n s → (s ≡ t) × (n ≡ m)
  halts_so p q = (cc, cc)

  -- What it refuses leaves it, and has the number of such a step.
  finished_halts : (x : Step) (st : State) (n : ℕ) (s : Session) → NothingOpen st → step x st ≡ halted n s → (s ≡ st.now) × (n ≡ number_after_finish (some x))
  finished_halts (add h) st n s w e = halts_so (finished_refuses (add h) st tt w) e
  finished_halts (restore i) st n s w e = go (nth st.past i) e
    where
      go : (o : Option Session) → after_restore o i st ≡ halted n s → (s ≡ st.now) × (n ≡ 11)
      go none e = (cc, cc)
      go (some b) e = not_went (sym e)
  finished_halts (forget i) st n s w e = go (nth st.past i) e
    where
      go : (o : Option Session) → after_forget o i st ≡ halted n s → (s ≡ st.now) × (n ≡ 11)
      go none e = (cc, cc)
      go (some b) e = not_went (sym e)
  finished_halts (quote h) st n s w e = halts_so (finished_refuses (quote h) st tt w) e
  finished_halts take_quote st n s w e = halts_so (finished_refuses take_quote st tt w) e

  odd_waits : (s : Session) (o : Option (List Todo)) → s.waiting ≡ o → word_of s % 2 ≡ 1 → s.waiting ≡ none
  odd_waits s none e h = e
  odd_waits s (some k) e h =
      let z : finished_bit s.waiting ≡ 0 = ap finished_bit e in
      absurd (omega arith)

  -- A step that is no quote, whose first word says finished.
  finishes : (xs : List Step) (st : State) (k : ℕ) (r : Run) → IfAny NoQuote (nth xs k) → at r.words (3 * k) % 2 ≡ 1 → (t : Taken xs st k r)
      → NothingOpen t.after × (at r.words (3 * k) ≡ word_of t.after.now)
  finishes xs st k r q odd t =
      let plain : Plain (went t.words t.after) = subst Plain t.goes (plain_step t.kind (subst (IfAny NoQuote) t.is q) t.before) in
      let word : at r.words (3 * k) ≡ word_of t.after.now = ap (λ (l : List ℕ). at l 0) (t.words_are ∙ plain.0) in
      ((odd_waits t.after.now t.after.now.waiting refl (ap (λ (n : ℕ). n % 2) (sym word) ∙ odd), plain.1), word)

  -- THE FINISH. The last step taken is no quote, and its first word says finished: then the session at the end of the run is finished, that word has its size, and the
  -- number is that of the next step.
  pub record Finish (xs : List Step) (k : ℕ) (r : Run) : Type 0 where
    pub reached : State
    pub walked : walk (take (suc k) xs) at_start ≡ some reached
    pub last_is : r.last ≡ reached.now
    pub is_finished : r.last.waiting ≡ none
    pub word_is : at r.words (3 * k) ≡ size_of r.last.written.items * 2 + 1
    pub number_is : r.number ≡ number_after_finish (nth xs (suc k))

  pub run_finish : (xs : List Step) (k : ℕ) → suc k ≡ (run xs at_start).steps → IfAny NoQuote (nth xs k) → at (run xs at_start).words (3 * k) % 2 ≡ 1
      → Finish xs k (run xs at_start)
  run_finish xs k l q odd = go (run xs at_start) l odd (run_ends xs at_start) (run_taken xs at_start k (omega arith))
    where
      ends_so : (o : Option Step) (st : State) (n : ℕ) (s : Session) → NothingOpen st → EndsAt o st n s → (s ≡ st.now) × (n ≡ number_after_finish o)
      ends_so none st n s w e = (e.1, e.0)
      ends_so (some x) st n s w e = finished_halts x st n s w e

      go : (r : Run) → suc k ≡ r.steps → at r.words (3 * k) % 2 ≡ 1 → Ends xs at_start r → Taken xs at_start k r → Finish xs k r
      go r l odd m t =
          let w = finishes xs at_start k r q odd t in
          let there : walk (take (suc k) xs) at_start ≡ some m.reached = ap (λ (n : ℕ). walk (take n xs) at_start) l ∙ m.walked in
          let same : m.reached ≡ t.after = some-injective m.reached t.after (sym there ∙ t.onward_to) in
          let e = ends_so (nth xs (suc k)) t.after r.number r.last w.0
          (subst (λ (n : ℕ). EndsAt (nth xs n) t.after r.number r.last) (sym l)
          (subst (λ (v : State). EndsAt (nth xs r.steps) v r.number r.last) same m.ends)) in
          let waits : r.last.waiting ≡ none = ap (λ (s : Session). s.waiting) e.0 ∙ w.0.0 in
          record {
            reached = t.after;
            walked = t.onward_to;
            last_is = e.0;
            is_finished = waits;
            word_is = w.1 ∙ ap word_of (sym e.0) ∙ ap (λ (o : Option (List Todo)). size_of r.last.written.items * 2 + finished_bit o) waits;
            number_is = e.1;
          }

  -- Where no undo comes next, the step whose first word says finished is the last one taken.
  pub finish_last : (xs : List Step) (k : ℕ) → k < (run xs at_start).steps → IfAny NoQuote (nth xs k) → at (run xs at_start).words (3 * k) % 2 ≡ 1
      → IfAny NoUndo (nth xs (suc k)) → suc k ≡ (run xs at_start).steps
  finish_last xs k l q odd u = by_eq (suc k) (run xs at_start).steps l (λ h. go (run_taken xs at_start (suc k) h))
    where
      by_eq : (a b : ℕ) → a ≤ b → (a < b → ⊥) → a ≡ b
      by_eq a b l n = by_lt a b (λ h. absurd (n h)) (λ h. omega arith)

      go : Taken xs at_start (suc k) (run xs at_start) → ⊥
      go s =
          let t = run_taken xs at_start k l in
          let w = finishes xs at_start k (run xs at_start) q odd t in
          let same : s.before ≡ t.after = some-injective s.before t.after (sym s.walked ∙ t.onward_to) in
          not_went (sym (finished_refuses s.kind t.after (subst (IfAny NoUndo) s.is u) w.0)
          ∙ subst (λ (v : State). step s.kind v ≡ went s.words s.after) same s.goes)
