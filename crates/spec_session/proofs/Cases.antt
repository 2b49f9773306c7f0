-- 01's whole case and undo example, quotes, and scans, computed; that the whole case meets the premises; and why each premise is needed.
use Rattle.std.specs.Prelude.{ℕ, ◌≡◌, refl, List, [], ◌∷◌, map, replicate}
use Rattle.std.proofs.Common.{inl, inr, arith}
use Rattle.std.proofs.Math.Option.{Option, none, some, bind}
use Rattle.words.specs.BigEndian.{big_endian, number_after}
use Rattle.allocator.specs.Handle.{node_of, handle_of}
use Rattle.allocator.specs.SmallAtom.{small_bytes, len_for_value, further_bytes, fits_in_small_atom, is_small_atom}
use Rattle.atom.specs.Prefix.{first_width, prefix_width, encode}
use Rattle.atom.specs.Parse.{ones, size_of, parse}
use Rattle.atom.specs.Write.{serialized_length}
use Rattle.spec_reading.specs.Tree.{Tree, place, atom, cons}
use Rattle.path.specs.Bytes.{path_bytes, octets}
use Rattle.path.specs.Measure.{counted}
use Rattle.spec_search.specs.Search.{walk, passes, search}
use Rattle.spec_session.specs.File.{File, Step, got, add, restore, forget, quote, take_quote, version_1, file, atoms, pairs, steps}
use Rattle.spec_session.specs.Unfold.{unfolded}
use Rattle.spec_session.specs.Filling.{plain_filling}
use Rattle.spec_session.specs.Survivors.{survivors}
use Rattle.spec_session.specs.Premises.{In, Above, Apart}
use Rattle.spec_session.specs.Cache.{enter, update}
use Rattle.spec_session.specs.Items.{cons_item, read_items, output}
use Rattle.spec_session.specs.Writer.{start, write, resume}
use Rattle.spec_session.specs.FindPath.{find_in}
use Rattle.spec_session.specs.Steps.{Run, stop_at, with_words, at_start, run_steps}
use Rattle.spec_session.specs.Call.{after_file}
use Rattle.spec_session.specs.Scan.{pair_mark, an_atom, a_reference, scan_after, scan, scanned_references, scanned_prefixes}

abbrev pub foobar : List ℕ
foobar = 0x66 ∷ 0x6f ∷ 0x6f ∷ 0x62 ∷ 0x61 ∷ 0x72 ∷ []

abbrev run : File → Run
run f = run_steps counted 65535 f f.steps at_start

-- The words of a run, and the tree that its items are read as.
abbrev words_read : File → List ℕ × Option Tree
words_read f = ((run f).words, read_items (run f).last.written.items)

-- ---- the whole case

-- 42 52 53 00 01 00 01 00 06 66 6f 6f 62 61 72 00 02 08 00 00 00 08 00 00 00 04 00 00 00 00 00 00 00 00 00 00 00 01 00 00 00 01 01 04 00 00 00
abbrev pub whole_case : List ℕ
whole_case =
    0x42 ∷ 0x52 ∷ 0x53 ∷ 0 ∷ 1 ∷ 0 ∷ 1 ∷ 0 ∷ 6 ∷ 0x66 ∷ 0x6f ∷ 0x6f ∷ 0x62 ∷ 0x61 ∷ 0x72 ∷ 0 ∷ 2 ∷ 8 ∷ 0 ∷ 0 ∷ 0 ∷ 8 ∷ 0 ∷ 0 ∷ 0 ∷ 4 ∷ 0 ∷ 0 ∷ 0 ∷ 0 ∷ 0 ∷ 0 ∷ 0
    ∷ 0 ∷ 0 ∷ 0 ∷ 0 ∷ 1 ∷ 0 ∷ 0 ∷ 0 ∷ 1 ∷ 1 ∷ 4 ∷ 0 ∷ 0 ∷ 0 ∷ []

abbrev pub whole_file : File
whole_file =
    record {
      atoms = foobar ∷ [];
      pairs = record { left = 0x8000000; right = 0x8000000 } ∷ record { left = 0x4000000; right = 0 } ∷ [];
      sentinel = some 0;
      steps = add 1 ∷ add 0x4000000 ∷ [];
    }

pub whole_case_is : file version_1 whole_case ≡ got whole_file []
unfolding file atoms pairs steps number_after big_endian node_of further_bytes fits_in_small_atom is_small_atom
whole_case_is = refl

-- The states of the plain filling: open; (foobar . open); (foobar . foobar). A third add finds no place open and leaves the tree as it is.
pub whole_states : map (plain_filling whole_file) ([] ∷ (1 ∷ []) ∷ (1 ∷ 0x4000000 ∷ []) ∷ (1 ∷ 0x4000000 ∷ 0x4000000 ∷ []) ∷ [])
    ≡ place ∷ cons (atom foobar) place ∷ cons (atom foobar) (atom foobar) ∷ cons (atom foobar) (atom foobar) ∷ []
unfolding plain_filling unfolded node_of
whole_states = refl

pub whole_apart : Apart (map (unfolded whole_file) (1 ∷ 0x4000000 ∷ []))
unfolding unfolded node_of handle_of
whole_apart = (omega arith, ((λ h a i. i), tt), (omega arith, tt, tt))

-- The call: number 0, two steps, ten bytes, for which there is just enough room; whatever the slices held, they hold the words and
-- the bytes, and zero past them. (Question 1 is left out.)
whole_call : after_file {C = ℕ} 0 version_1 counted (file version_1 whole_case)
    (record { work = 7 ∷ 8 ∷ []; words = 1 ∷ 2 ∷ 3 ∷ 4 ∷ 5 ∷ 6 ∷ 7 ∷ []; checkpoints = 4 ∷ []; output = 5 ∷ 5 ∷ 5 ∷ 5 ∷ 5 ∷ 5 ∷ 5 ∷ 5 ∷ 5 ∷ 5 ∷ [] })
    ≡ record {
      answer = record { number = 0; steps = 2; size = 10 };
      slices =
          record {
            work = 0 ∷ 0 ∷ [];
            words = 16 ∷ 0 ∷ 1 ∷ 21 ∷ 1 ∷ 1 ∷ 0 ∷ [];
            checkpoints = 0 ∷ [];
            output = 0xff ∷ 0x86 ∷ 0x66 ∷ 0x6f ∷ 0x6f ∷ 0x62 ∷ 0x61 ∷ 0x72 ∷ 0xfe ∷ 0x02 ∷ [];
          };
    }
unfolding file atoms pairs steps number_after fits_in_small_atom is_small_atom further_bytes run_steps unfolded enter update write resume find_in walk passes search node_of handle_of
    serialized_length encode prefix_width first_width path_bytes octets big_endian
whole_call = refl

-- ---- undo: A = ((S . nil) . B) is pair 1, C = (B . nil) is pair 2, B = foobar is atom 0; the sentinel S is the small atom 1

abbrev undo_file : List Step → File
undo_file steps =
    record {
      atoms = foobar ∷ [];
      pairs =
          record { left = 0x8000001; right = 0x8000000 }
          ∷ record { left = 0; right = 0x4000000 }
          ∷ record { left = 0x4000000; right = 0x8000000 }
          ∷ [];
      sentinel = some 0x8000001;
      steps = steps;
    }

-- A is added, then a handle that an undo step takes back, then C.
abbrev taken_back : (handle : ℕ) → (undo : Step) → File
taken_back h undo = undo_file (add 1 ∷ add h ∷ undo ∷ add 2 ∷ [])

-- B is taken back by `02`.
undone : File
undone = taken_back 0x4000000 (restore 1)

undone_bytes : output (run undone).last.written.items
    ≡ 0xff ∷ 0xff ∷ 0xff ∷ 0x86 ∷ 0x66 ∷ 0x6f ∷ 0x6f ∷ 0x62 ∷ 0x61 ∷ 0x72 ∷ 0x80 ∷ 0x80 ∷ 0xfe ∷ 0x04 ∷ []
unfolding undone run_steps unfolded enter update write resume find_in walk passes search node_of handle_of
    serialized_length encode prefix_width first_width path_bytes octets big_endian small_bytes len_for_value further_bytes
undone_bytes = refl

-- ((C . nil) . C), where the plain filling of A and C is ((C . nil) . B).
undone_read : words_read undone
    ≡ (4 ∷ 0 ∷ 0 ∷ 25 ∷ 1 ∷ 2 ∷ 4 ∷ 0 ∷ 0 ∷ 29 ∷ 1 ∷ 3 ∷ [], some (cons (cons (cons (atom foobar) (atom [])) (atom [])) (cons (atom foobar) (atom []))))
unfolding undone bind run_steps unfolded enter update write resume find_in walk passes search node_of handle_of
    serialized_length encode prefix_width first_width path_bytes octets big_endian small_bytes len_for_value further_bytes
undone_read = refl

-- The same with `03`: it takes back the finish too, what the add of B entered is forgotten, and the bytes read as the filling of the survivors, A and C.
forgotten : File
forgotten = taken_back 0x4000000 (forget 1)

forgotten_filled : plain_filling forgotten (survivors forgotten.steps) ≡ cons (cons (cons (atom foobar) (atom [])) (atom [])) (atom foobar)
unfolding forgotten plain_filling unfolded node_of handle_of small_bytes len_for_value further_bytes big_endian
forgotten_filled = refl

forgotten_apart : Apart (map (unfolded forgotten) (survivors forgotten.steps))
unfolding forgotten unfolded node_of handle_of
forgotten_apart = (omega arith, (shut, tt), (omega arith, tt, tt))
  where
    only : (h : ℕ) → In h (unfolded forgotten 2) → h ≡ 2
    only h (inl e) = e
    only h (inr (inl i)) = absurd i
    only h (inr (inr i)) = absurd i

    shut : (h : ℕ) → Above h (unfolded forgotten 1) → In h (unfolded forgotten 2) → ⊥
    shut h (inl a) i = omega (arith, a.0, only h i)
    shut h (inr (inl (inl a))) i = omega (arith, a.0, only h i)
    shut h (inr (inl (inr (inl a)))) i = a
    shut h (inr (inl (inr (inr a)))) i = a
    shut h (inr (inr a)) i = a

forgotten_read : words_read forgotten ≡ (4 ∷ 0 ∷ 0 ∷ 25 ∷ 1 ∷ 2 ∷ 4 ∷ 0 ∷ 0 ∷ 29 ∷ 1 ∷ 3 ∷ [], some (cons (cons (cons (atom foobar) (atom [])) (atom [])) (atom foobar)))
unfolding forgotten bind run_steps unfolded enter update write resume find_in walk passes search node_of handle_of
    serialized_length encode prefix_width first_width path_bytes octets big_endian small_bytes len_for_value further_bytes
forgotten_read = refl

-- Where nil is taken back the words differ: after `02` the sentinel's parent stays with nil, so no path leads to C, and B is written in full a second time.
nil_undone : (run (taken_back 0x8000000 (restore 1))).words ≡ 4 ∷ 0 ∷ 0 ∷ 23 ∷ 0 ∷ 3 ∷ 4 ∷ 0 ∷ 0 ∷ 39 ∷ 0 ∷ 4 ∷ []
unfolding run_steps unfolded enter update write resume find_in walk passes search node_of handle_of
    serialized_length encode prefix_width first_width path_bytes octets big_endian small_bytes len_for_value further_bytes
nil_undone = refl

nil_forgotten : (run (taken_back 0x8000000 (forget 1))).words ≡ 4 ∷ 0 ∷ 0 ∷ 23 ∷ 0 ∷ 3 ∷ 4 ∷ 0 ∷ 0 ∷ 29 ∷ 1 ∷ 3 ∷ []
unfolding run_steps unfolded enter update write resume find_in walk passes search node_of handle_of
    serialized_length encode prefix_width first_width path_bytes octets big_endian small_bytes len_for_value further_bytes
nil_forgotten = refl

-- Number 11: there is no add 2 to go back to.
forget_refused : (run (taken_back 0x8000000 (forget 2))).number ≡ 11
unfolding run_steps unfolded enter update write resume find_in walk passes search node_of handle_of
    serialized_length encode prefix_width first_width path_bytes octets big_endian small_bytes len_for_value further_bytes
forget_refused = refl

-- ---- quotes

-- Nil quoted in the place of nil added and taken back: nothing that the quote entered stays, as after `03`.
nil_quoted : (run (undo_file (add 1 ∷ quote 0x8000000 ∷ add 2 ∷ []))).words ≡ 4 ∷ 0 ∷ 0 ∷ 23 ∷ 0 ∷ 3 ∷ 29 ∷ 1 ∷ 3 ∷ []
unfolding run_steps unfolded enter update write resume find_in walk passes search node_of handle_of
    serialized_length encode prefix_width first_width path_bytes octets big_endian small_bytes len_for_value further_bytes
nil_quoted = refl

abbrev whole_run : (space : ℕ) → List Step → Run
whole_run space steps = run_steps counted space whole_file steps at_start

-- The two adds of the whole case, each quoted and then taken: it ends where their run ends. Taken twice, 17.
whole_quoted : whole_run 65535 (quote 1 ∷ take_quote ∷ quote 0x4000000 ∷ take_quote ∷ take_quote ∷ [])
    ≡ with_words (16 ∷ 0 ∷ 1 ∷ [])
    (with_words (16 ∷ 0 ∷ 1 ∷ []) (with_words (21 ∷ 1 ∷ 1 ∷ []) (with_words (21 ∷ 1 ∷ 1 ∷ []) (stop_at 17 (whole_run 65535 whole_file.steps).last))))
unfolding run_steps unfolded enter update write resume find_in walk passes search node_of handle_of
    serialized_length encode prefix_width first_width path_bytes octets big_endian
whole_quoted = refl

-- A taken quote survives, and one that another step drops does not.
quoted_survive : survivors (quote 1 ∷ take_quote ∷ quote 2 ∷ add 3 ∷ quote 4 ∷ quote 5 ∷ take_quote ∷ quote 6 ∷ forget 2 ∷ []) ≡ 1 ∷ 3 ∷ []
quoted_survive = refl

-- A quote that 13 refuses leaves no item, an add the whole ones.
quote_13 : whole_run 7 (quote 1 ∷ []) ≡ stop_at 13 start
unfolding run_steps unfolded enter update write resume find_in walk passes search node_of handle_of
    serialized_length encode prefix_width first_width path_bytes octets big_endian
quote_13 = refl

add_13 : (whole_run 7 (add 1 ∷ [])).last.written.items ≡ cons_item ∷ []
unfolding run_steps unfolded enter update write resume find_in walk passes search node_of handle_of
    serialized_length encode prefix_width first_width path_bytes octets big_endian
add_13 = refl

-- Why the last step taken may be no quote: its first word says finished, and nothing is written.
only_quoted : whole_run 65535 (quote 0x4000000 ∷ []) ≡ with_words (15 ∷ 0 ∷ 1 ∷ []) (stop_at 0 start)
unfolding run_steps unfolded enter update write resume find_in walk passes search node_of handle_of
    serialized_length encode prefix_width first_width path_bytes octets big_endian
only_quoted = refl

-- ---- why no pair above the sentinel may occur in a later tree: P = (S . nil) is added, then (foobar . (1 . (2 . (P . foobar)))), then 3

again : File
again =
    record {
      atoms = foobar ∷ [];
      pairs =
          record { left = 0x8000007; right = 0x8000000 }
          ∷ record { left = 0; right = 0x4000000 }
          ∷ record { left = 0x8000002; right = 1 }
          ∷ record { left = 0x8000001; right = 2 }
          ∷ record { left = 0x4000000; right = 3 }
          ∷ [];
      sentinel = some 0x8000007;
      steps = add 0 ∷ add 4 ∷ add 0x8000003 ∷ [];
    }

-- The last step's first word says finished, and the items are turned down.
again_read : words_read again ≡ (2 ∷ 0 ∷ 0 ∷ 30 ∷ 0 ∷ 1 ∷ 41 ∷ 1 ∷ 3 ∷ [], none)
unfolding again bind run_steps unfolded enter update write resume find_in walk passes search node_of handle_of
    serialized_length encode prefix_width first_width path_bytes octets big_endian small_bytes len_for_value further_bytes
again_read = refl

-- ---- why a tree may have no second open place: X = (S . S), and (X . foobar), (foobar . nil), (1 . 2) are added; 1 is read for foobar

two : File
two =
    record {
      atoms = foobar ∷ [];
      pairs =
          record { left = 0x8000007; right = 0x8000007 }
          ∷ record { left = 0; right = 0x4000000 }
          ∷ record { left = 0x4000000; right = 0x8000000 }
          ∷ record { left = 0x8000001; right = 0x8000002 }
          ∷ [];
      sentinel = some 0x8000007;
      steps = add 1 ∷ add 2 ∷ add 3 ∷ [];
    }

-- The same up to the last atom.
abbrev two_tree : List ℕ → Tree
two_tree bytes = cons (cons (cons (atom foobar) (atom [])) (cons (atom (1 ∷ [])) (atom (2 ∷ [])))) (atom bytes)

two_filled : plain_filling two (1 ∷ 2 ∷ 3 ∷ []) ≡ two_tree foobar
unfolding two plain_filling unfolded node_of handle_of small_bytes len_for_value further_bytes big_endian
two_filled = refl

two_read : words_read two ≡ (4 ∷ 0 ∷ 0 ∷ 22 ∷ 0 ∷ 2 ∷ 33 ∷ 1 ∷ 2 ∷ [], some (two_tree (1 ∷ [])))
unfolding two bind run_steps unfolded enter update write resume find_in walk passes search node_of handle_of
    serialized_length encode prefix_width first_width path_bytes octets big_endian small_bytes len_for_value further_bytes
two_read = refl

-- ---- scans

-- ff 80 ff 83 61 62 63 ff 05 fe 02: nil, an atom of three bytes, a byte that stands for itself, a reference.
scanned : scan (0xff ∷ 0x80 ∷ 0xff ∷ 0x83 ∷ 0x61 ∷ 0x62 ∷ 0x63 ∷ 0xff ∷ 0x05 ∷ 0xfe ∷ 0x02 ∷ [])
    ≡ pair_mark ∷ an_atom 1 ∷ pair_mark ∷ an_atom 1 ∷ pair_mark ∷ an_atom 0 ∷ a_reference 0 ∷ []
unfolding scan_after parse size_of ones number_after
scanned = refl

-- The references, and the prefix bytes.
abbrev counts : (bytes : List ℕ) → ℕ × ℕ
counts bytes = (scanned_references bytes, scanned_prefixes bytes)

-- No bytes; those above; an `ff` and an `fe` in an atom, and the prefix of a path; an atom of 64 bytes.
scanned_counts : map counts
    ([]
    ∷ (0xff ∷ 0x80 ∷ 0xff ∷ 0x83 ∷ 0x61 ∷ 0x62 ∷ 0x63 ∷ 0xff ∷ 0x05 ∷ 0xfe ∷ 0x02 ∷ [])
    ∷ (0xff ∷ 0x82 ∷ 0xff ∷ 0xfe ∷ 0xfe ∷ 0x81 ∷ 0x80 ∷ [])
    ∷ (0xc0 ∷ 0x40 ∷ replicate 64 0xfe)
    ∷ [])
    ≡ (0, 0) ∷ (1, 2) ∷ (1, 2) ∷ (0, 2) ∷ []
unfolding scan_after parse size_of ones number_after
scanned_counts = refl

-- The words of a run, its number, and the counts of the output at its end.
abbrev told : Run → List ℕ × ℕ × (ℕ × ℕ)
told r = (r.words, r.number, counts (output r.last.written.items))

-- Why the number may be no 13: A is added and then C, of which `ff` and foobar fit. The words are those before C.
counts_13 : told (run_steps counted 10 (undo_file []) (add 1 ∷ add 2 ∷ []) at_start) ≡ (4 ∷ 0 ∷ 0 ∷ [], 13, (0, 1))
unfolding scan_after parse size_of ones number_after run_steps unfolded enter update write resume find_in walk passes search node_of handle_of
    serialized_length encode prefix_width first_width path_bytes octets big_endian small_bytes len_for_value further_bytes
counts_13 = refl
