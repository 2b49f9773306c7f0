-- The plain reader accepts exactly the bytes that stand for a tree by the grammar, and gives that tree.
-- Assumes nothing.
use Rattle.std.specs.Prelude.{ℕ, zero, suc, ◌+◌, ◌≤◌, ◌<◌, ◌≡◌, Bool, true, false, cond, eqb, length}
use Rattle.std.proofs.Math.Path.{refl, ap, ap₂}
use Rattle.std.proofs.Common.{sym, ◌∙◌, subst, arith, length-append, take-append-drop, drop_at, eqb-true}
use mathlib.Core.List.{List, [], ◌∷◌, ◌++◌, append_assoc, append-nil}
use Rattle.std.proofs.Math.Option.{Option, none, some}
use Rattle.std.proofs.Math.ListN.{drop, take}
use Rattle.words.specs.Choice.{clash}
use Rattle.words.specs.Lists.{Bytes, all_drop}
use Rattle.atom.specs.Prefix.{encode}
use Rattle.atom.specs.Parse.{Parse, blob, refused, ones, size_of, parse, blob_of}
use Rattle.atom.specs.ParseLaws.{parse_nil}
use Rattle.atom.specs.RoundTrip.{read_back, accepted_encoded}
use Rattle.path.specs.Bytes.{read_path}
use Rattle.spec_reading.specs.Tree.{Tree, atom, cons, referred}
use Rattle.spec_reading.specs.Format.{Values, ParseOp, SExp, Cons, At, Step, go, Read, accepted, turned_down}
use Rattle.spec_reading.specs.Format.{at_end, settle, pushed, atom_item, path_item, next_item, step, then, run, read}
use Rattle.spec_reading.specs.Plain.{Plain, found, push_path_plain, plain_values, read_plain}
use Rattle.spec_reading.specs.Grammar.{StandsFor, an_atom, a_pair, a_reference}
use Rattle.spec_reading.proofs.Blobs.{refused_not_blob}
use Rattle.spec_reading.proofs.Fuel.{onward, onward_step}

-- ---- an atom's first byte is no mark

parse_ff : (s : List ℕ) → parse (0xff ∷ s) ≡ refused 14
unfolding parse size_of ones
parse_ff s = refl

parse_fe : (s : List ℕ) → parse (0xfe ∷ s) ≡ refused 14
unfolding parse size_of ones
parse_fe s = refl

-- Bytes that begin with an atom are read as an atom.
pub next_atom : {S : Type 0} (keep : Values S) (s : List ℕ) (start end : ℕ) → parse s ≡ blob start end → (ops : List ParseOp) (v : S)
    → next_item keep s ops v ≡ atom_item keep (blob start end) s ops v
next_atom keep [] start end e ops v = refused_not_blob 14 start end (sym parse_nil ∙ e)
next_atom keep (b ∷ s) start end e ops v = choose (eqb b 0xff) (eqb b 0xfe) refl refl
  where
    choose : (f g : Bool) → eqb b 0xff ≡ f → eqb b 0xfe ≡ g → next_item keep (b ∷ s) ops v ≡ atom_item keep (blob start end) (b ∷ s) ops v
    choose true g h k = refused_not_blob 14 start end (sym (ap (λ (x : ℕ). parse (x ∷ s)) (eqb-true b 0xff h) ∙ parse_ff s) ∙ e)
    choose false true h k = refused_not_blob 14 start end (sym (ap (λ (x : ℕ). parse (x ∷ s)) (eqb-true b 0xfe k) ∙ parse_fe s) ∙ e)
    choose false false h k = rw (h, k, e)

-- ---- from the grammar to the reader

abbrev kept : List Tree → ℕ → Plain
kept ts m = record { trees = ts; made = m }

abbrev place : List ℕ → List ParseOp → List Tree → ℕ → At Plain
place rest ops ts m = record { rest = rest; ops = ops; values = kept ts m }

-- Reading on from a place; reading on after an item.
abbrev from : List ℕ → List ParseOp → List Tree → ℕ → Read Plain
from rest ops ts m = onward plain_values (place rest ops ts m)

abbrev on : Step Plain → Read Plain
on x = then plain_values x (onward plain_values)

module _ (form rest : List ℕ) (ops : List ParseOp) (ts : List Tree) (m : ℕ) where
  pub atom_step : (a : List ℕ) → encode a ≡ some form → next_item plain_values (form ++ rest) ops (kept ts m) ≡ settle plain_values rest ops (kept (atom a ∷ ts) (m + 1))
  atom_step a e =
      let r = read_back a form rest e in
      next_atom plain_values (form ++ rest) r.start (length form) r.parsed_is ops (kept ts m)
      ∙ ap₂ (λ (l x : List ℕ). settle plain_values l ops (kept (atom x ∷ ts) (m + 1))) (drop_at form rest (length form) refl) r.blob_is

  pub reference_step : (path : List ℕ) (t : Tree) → encode path ≡ some form → referred path ts ≡ some t
      → next_item plain_values (0xfe ∷ (form ++ rest)) ops (kept ts m) ≡ settle plain_values rest ops (kept (t ∷ ts) (m + 1))
  unfolding referred
  reference_step path t e q =
      let r = read_back path form rest e in
      ap (λ (x : Parse). path_item plain_values x (form ++ rest) ops (kept ts m)) r.parsed_is
      ∙ ap₂ (λ (l x : List ℕ). pushed plain_values (push_path_plain (read_path x) (kept ts m)) l ops) (drop_at form rest (length form) refl) r.blob_is
      ∙ ap (λ (o : Option Tree). pushed plain_values (found o (kept ts m)) rest ops) q

-- Bytes that stand for a tree are read as that tree, whatever comes after them and whatever is left to do.
pub stands_read : {ts : List Tree} {bytes : List ℕ} {t : Tree} → StandsFor ts bytes t → (rest : List ℕ) (ops : List ParseOp) (m : ℕ)
    → (c : ℕ) × (from (bytes ++ rest) ops ts m ≡ on (settle plain_values rest ops (kept (t ∷ ts) c)))
unfolding step
stands_read {ts} {bytes} (an_atom {a = a} e) rest ops m =
    (m + 1, onward_step plain_values (place (bytes ++ rest) ops ts m) ∙ ap on (atom_step bytes rest ops ts m a e))
stands_read {ts} (a_pair {ls = ls} {rs = rs} {l = l} x y) rest ops m =
    let i = stands_read x (rs ++ rest) (SExp ∷ Cons ∷ ops) m in
    let j = stands_read y rest (Cons ∷ ops) i.0 in (
      j.0 + 2,
      onward_step plain_values (place (0xff ∷ ((ls ++ rs) ++ rest)) ops ts m)
          ∙ ap (λ (s : List ℕ). from s (SExp ∷ Cons ∷ ops) ts m) (append_assoc ls rs rest) ∙ i.1 ∙ j.1,
    )
stands_read {ts} {t = t} (a_reference path {form = form} e q) rest ops m =
    (m + 1, onward_step plain_values (place (0xfe ∷ (form ++ rest)) ops ts m) ∙ ap on (reference_step form rest ops ts m path t e q))

-- ---- from the reader to the grammar

-- What is accepted from a place begins with a tree, and with it read the rest is accepted too.
record First (rest : List ℕ) (ops : List ParseOp) (ts : List Tree) (p : Plain) : Type 0 where
  tree : Tree
  bytes : List ℕ
  after : List ℕ
  split : rest ≡ bytes ++ after
  stands : StandsFor ts bytes tree
  made : ℕ
  goes_on : on (settle plain_values after ops (kept (tree ∷ ts) made)) ≡ accepted p

abbrev FirstWithin : ℕ → Type 0
FirstWithin n =
    (rest : List ℕ) → length rest ≤ n → Bytes rest → (ops : List ParseOp) (ts : List Tree) (m : ℕ) (p : Plain) → from rest ops ts m ≡ accepted p → First rest ops ts p

not_accepted : {X : Type 0} (n : ℕ) (p : Plain) → turned_down n ≡ accepted p → X
not_accepted n p e = clash cc

bytes_after : (xs ys : List ℕ) → Bytes (xs ++ ys) → Bytes ys
bytes_after xs ys h = subst Bytes (drop_at xs ys (length xs) refl) (all_drop (λ (n : ℕ). n < 256) (length xs) (xs ++ ys) h)

module _ (ops : List ParseOp) (ts : List Tree) (m : ℕ) (p : Plain) where
  first_atom : (s : List ℕ) → Bytes s → (x : Parse) → parse s ≡ x → on (atom_item plain_values x s ops (kept ts m)) ≡ accepted p → First s ops ts p
  first_atom s bs (refused n) e h = not_accepted n p h
  first_atom s bs (blob start end) e h =
      record {
        tree = atom (blob_of s (blob start end));
        bytes = take end s;
        after = drop end s;
        split = sym (take-append-drop end s);
        stands = an_atom (accepted_encoded s start end bs e);
        made = m + 1;
        goes_on = h;
      }

  first_reference : (s : List ℕ) → Bytes s → (x : Parse) → parse s ≡ x → on (path_item plain_values x s ops (kept ts m)) ≡ accepted p → First (0xfe ∷ s) ops ts p
  unfolding referred
  first_reference s bs (refused n) e h = not_accepted n p h
  first_reference s bs (blob start end) e h = leads (referred (blob_of s (blob start end)) ts) refl h
    where
      leads : (o : Option Tree) → referred (blob_of s (blob start end)) ts ≡ o → on (pushed plain_values (found o (kept ts m)) (drop end s) ops) ≡ accepted p
          → First (0xfe ∷ s) ops ts p
      leads none q k = not_accepted 16 p k
      leads (some t) q k =
          record {
            tree = t;
            bytes = 0xfe ∷ take end s;
            after = drop end s;
            split = ap (λ (l : List ℕ). 0xfe ∷ l) (sym (take-append-drop end s));
            stands = a_reference (blob_of s (blob start end)) (accepted_encoded s start end bs e) q;
            made = m + 1;
            goes_on = k;
          }

  first_pair : (n : ℕ) → FirstWithin n → (s : List ℕ) → length s ≤ n → Bytes s → from s (SExp ∷ Cons ∷ ops) ts m ≡ accepted p → First (0xff ∷ s) ops ts p
  first_pair n ih s l bs h =
      let x = ih s l bs (SExp ∷ Cons ∷ ops) ts m p h in
      let short : length x.after ≤ n = omega (arith, l, ap length x.split, length-append x.bytes x.after) in
      let y = ih x.after short (bytes_after x.bytes x.after (rw x.split at bs)) (Cons ∷ ops) (x.tree ∷ ts) x.made p x.goes_on in
      record {
        tree = cons x.tree y.tree;
        bytes = 0xff ∷ (x.bytes ++ y.bytes);
        after = y.after;
        split =
            ap (λ (k : List ℕ). 0xff ∷ k)
            (x.split ∙ ap (λ (k : List ℕ). x.bytes ++ k) y.split ∙ sym (append_assoc x.bytes y.bytes y.after));
        stands = a_pair x.stands y.stands;
        made = y.made + 2;
        goes_on = y.goes_on;
      }

first_tree : (n : ℕ) → FirstWithin n
unfolding step run
first_tree zero [] l bs ops ts m p h = not_accepted 14 p h
first_tree zero (b ∷ s) l bs ops ts m p h = absurd (omega arith)
first_tree (suc n) [] l bs ops ts m p h = not_accepted 14 p h
first_tree (suc n) (b ∷ s) l bs ops ts m p h =
    choose (eqb b 0xff) (eqb b 0xfe) refl refl (sym (onward_step plain_values (place (b ∷ s) ops ts m)) ∙ h) (first_tree n)
  where
    choose : (f g : Bool) → eqb b 0xff ≡ f → eqb b 0xfe ≡ g
        → on (cond f (go (place s (SExp ∷ Cons ∷ ops) ts m))
        (cond g (path_item plain_values (parse s) s ops (kept ts m)) (atom_item plain_values (parse (b ∷ s)) (b ∷ s) ops (kept ts m)))) ≡ accepted p
        → FirstWithin n → First (b ∷ s) ops ts p
    choose true g e k a ih = rw (eqb-true b 0xff e) (first_pair ops ts m p n ih s (omega arith) bs.1 a)
    choose false true e k a ih = rw (eqb-true b 0xfe k) (first_reference ops ts m p s bs.1 (parse s) refl a)
    choose false false e k a ih = first_atom ops ts m p (b ∷ s) bs (parse (b ∷ s)) refl a

-- ---- for a whole input

-- Bytes that stand for a tree are accepted, with that tree.
pub grammar_read : (input : List ℕ) (t : Tree) → StandsFor [] input t → (c : ℕ) × (read_plain input ≡ accepted (record { trees = t ∷ []; made = c }))
unfolding read
grammar_read input t s =
    let r = stands_read s [] [] 0 in
    (r.0, ap (λ (l : List ℕ). from l [] [] 0) (sym (append-nil input)) ∙ r.1)

-- What is accepted is one tree, for which the bytes stand.
pub read_grammar : (input : List ℕ) (p : Plain) → Bytes input → read_plain input ≡ accepted p → (t : Tree) × (p.trees ≡ t ∷ []) × StandsFor [] input t
unfolding read
read_grammar input p bs e = whole (first_tree (length input) input (omega arith) bs [] [] 0 p e)
  where
    ends : (after bytes : List ℕ) (t : Tree) (c : ℕ) → input ≡ bytes ++ after → StandsFor [] bytes t → on (at_end plain_values after (kept (t ∷ []) c)) ≡ accepted p
        → (t : Tree) × (p.trees ≡ t ∷ []) × StandsFor [] input t
    ends [] bytes t c q s h =
        let same : kept (t ∷ []) c ≡ p = cc in
        (t, ap (λ (x : Plain). x.trees) (sym same), subst (λ (l : List ℕ). StandsFor [] l t) (sym (q ∙ append-nil bytes)) s)
    ends (b ∷ after) bytes t c q s h = not_accepted 14 p h

    whole : First input [] [] p → (t : Tree) × (p.trees ≡ t ∷ []) × StandsFor [] input t
    whole f = ends f.after f.bytes f.tree f.made f.split f.stands f.goes_on

-- Bytes stand for one tree at most.
pub stands_one : {ts : List Tree} {bytes : List ℕ} {t u : Tree} → StandsFor ts bytes t → StandsFor ts bytes u → t ≡ u
stands_one {ts} {t = t} {u} x y =
    let i = stands_read x [] [] 0 in
    let j = stands_read y [] [] 0 in
    let both : accepted (kept (t ∷ ts) i.0) ≡ accepted (kept (u ∷ ts) j.0) = sym i.1 ∙ j.1 in
    let same : kept (t ∷ ts) i.0 ≡ kept (u ∷ ts) j.0 = cc in
    let lists : ◌≡◌ {A = List Tree} (t ∷ ts) (u ∷ ts) = ap (λ (p : Plain). p.trees) same in
    cc

-- What is turned down stands for no tree, and what stands for no tree is turned down.
pub turned_down_none : (input : List ℕ) (n : ℕ) → read_plain input ≡ turned_down n → (t : Tree) → StandsFor [] input t → ⊥
turned_down_none input n e t s =
    let r = grammar_read input t s in
    not_accepted n (kept (t ∷ []) r.0) (sym e ∙ r.1)

pub none_turned_down : (input : List ℕ) → Bytes input → ((t : Tree) → StandsFor [] input t → ⊥) → (n : ℕ) × (read_plain input ≡ turned_down n)
none_turned_down input bs no_tree = go (read_plain input) refl
  where
    go : (r : Read Plain) → read_plain input ≡ r → (n : ℕ) × (read_plain input ≡ turned_down n)
    go (accepted p) e = let g = read_grammar input p bs e in absurd (no_tree g.0 g.2)
    go (turned_down n) e = (n, e)
