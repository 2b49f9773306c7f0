-- A scan of the items' bytes finds the items, and so counts what the items count: references, and prefix bytes.
-- Assumes nothing.
use Rattle.std.specs.Prelude.{ℕ, zero, suc, ◌+◌, ◌-◌, ◌≡◌, refl, Bool, true, false, cond, List, [], ◌∷◌, ◌++◌, map, eqb, length, drop}
use Rattle.std.proofs.Common.{sym, ap, ◌∙◌, arith, length-take, length-drop, eqb-true}
use Rattle.std.proofs.Math.Option.{Option, some}
use Rattle.words.specs.Lists.{All}
use Rattle.atom.specs.Prefix.{prefix_width, encode}
use Rattle.atom.specs.Write.{length_or_0, serialized_length}
use Rattle.atom.specs.Parse.{Parse, blob, refused, ones, size_of, parse}
use Rattle.atom.specs.ParseLaws.{blob_there}
use Rattle.atom.specs.RoundTrip.{read_back}
use Rattle.path.specs.Bytes.{path_bytes}
use Rattle.spec_reading.proofs.Blobs.{blob_within, refused_not_blob}
use Rattle.spec_session.specs.Items.{Item, cons_item, atom_item, reference_item, total, reference_count, references, width_or_0, item_prefix, prefix_bytes}
use Rattle.spec_session.specs.Items.{bytes_or_none, output}
use Rattle.spec_session.proofs.BytesRead.{Formed, nonempty}
use Rattle.spec_session.proofs.Counts.{atom_parts}
use Rattle.spec_session.specs.Scan.{Kind, pair_mark, an_atom, a_reference, prefix_at, taken_by, kind_at, further, scan_after, scan, is_reference, prefix_of}
use Rattle.spec_session.specs.Scan.{scanned_references, scanned_prefixes, kind_of}

-- ---- an atom

-- Where an atom was written, it is parsed: its own bytes start behind its prefix, and end where its bytes end.
atom_parsed : (a b rest : List ℕ) → encode a ≡ some b → parse (b ++ rest) ≡ blob (width_or_0 (prefix_width a)) (length b)
unfolding serialized_length
atom_parsed a b rest e =
    let r = read_back a b rest e in
    let i = blob_within (b ++ rest) r.start (length b) r.parsed_is in
    let own : length a ≡ length b - r.start =
    ap length (sym r.blob_is ∙ blob_there (b ++ rest) r.start (length b) i.forward i.inside)
    ∙ omega (arith, length-take (length b - r.start) (drop r.start (b ++ rest)), length-drop r.start (b ++ rest), i.forward, i.inside) in
    let start_is : r.start ≡ width_or_0 (prefix_width a) = omega (arith, own, i.forward, atom_parts a b e, ap length_or_0 e) in
    r.parsed_is ∙ ap (λ (n : ℕ). blob n (length b)) start_is

-- Its first byte is no mark.
parse_ff : (s : List ℕ) → parse (0xff ∷ s) ≡ refused 14
unfolding parse size_of ones
parse_ff s = refl

parse_fe : (s : List ℕ) → parse (0xfe ∷ s) ≡ refused 14
unfolding parse size_of ones
parse_fe s = refl

atom_kind : (b : ℕ) (s : List ℕ) (start end : ℕ) → parse (b ∷ s) ≡ blob start end → kind_at b s ≡ an_atom start
atom_kind b s start end e = go (eqb b 0xff) (eqb b 0xfe) refl refl
  where
    go : (c d : Bool) → eqb b 0xff ≡ c → eqb b 0xfe ≡ d
        → cond c pair_mark (cond d (a_reference (prefix_at (parse s))) (an_atom (prefix_at (parse (b ∷ s))))) ≡ an_atom start
    go true d f g = refused_not_blob 14 start end (sym (ap (λ (x : ℕ). parse (x ∷ s)) (eqb-true b 0xff f) ∙ parse_ff s) ∙ e)
    go false true f g = refused_not_blob 14 start end (sym (ap (λ (x : ℕ). parse (x ∷ s)) (eqb-true b 0xfe g) ∙ parse_fe s) ∙ e)
    go false false f g = ap (λ (p : Parse). an_atom (prefix_at p)) e

-- ---- one item

-- The bytes that are still to be passed are passed.
passed : (xs rest : List ℕ) (n : ℕ) → length xs ≡ n → scan_after n (xs ++ rest) ≡ scan_after 0 rest
unfolding scan_after
passed [] rest zero e = refl
passed [] rest (suc n) e = absurd (omega arith)
passed (x ∷ xs) rest zero e = absurd (omega arith)
passed (x ∷ xs) rest (suc n) e = passed xs rest n (omega arith)

atom_first : (a b rest : List ℕ) → encode a ≡ some b → scan (b ++ rest) ≡ an_atom (width_or_0 (prefix_width a)) ∷ scan rest
unfolding scan_after
atom_first a [] rest e = absurd (omega (arith, nonempty a [] e))
atom_first a (x ∷ b) rest e =
    let w = width_or_0 (prefix_width a) in
    let p = atom_parsed a (x ∷ b) rest e in
    ap (λ (k : Kind). k ∷ scan_after (further k x (b ++ rest)) (b ++ rest)) (atom_kind x (b ++ rest) w (length (x ∷ b)) p)
    ∙ ap (λ (q : Parse). an_atom w ∷ scan_after (taken_by q - 1) (b ++ rest)) p
    ∙ ap (λ (l : List Kind). an_atom w ∷ l) (passed b rest (length (x ∷ b) - 1) (omega arith))

reference_first : (a b rest : List ℕ) → encode a ≡ some b → scan (0xfe ∷ (b ++ rest)) ≡ a_reference (width_or_0 (prefix_width a)) ∷ scan rest
unfolding scan_after
reference_first a b rest e =
    ap (λ (q : Parse). a_reference (prefix_at q) ∷ scan_after (taken_by q) (b ++ rest)) (atom_parsed a b rest e)
    ∙ ap (λ (l : List Kind). a_reference (width_or_0 (prefix_width a)) ∷ l) (passed b rest (length b) refl)

-- ---- the items

-- THE SCAN of the bytes of items that have bytes finds these items.
pub scan_output : (items : List Item) → All Formed items → scan (output items) ≡ map kind_of items
unfolding scan_after
scan_output [] f = refl
scan_output (cons_item ∷ items) f = ap (λ (l : List Kind). pair_mark ∷ l) (scan_output items f.1)
scan_output (atom_item a ∷ items) f =
    ap (λ (o : Option (List ℕ)). scan (bytes_or_none o ++ output items)) f.0.1 ∙ atom_first a f.0.0 (output items) f.0.1
    ∙ ap (λ (l : List Kind). kind_of (atom_item a) ∷ l) (scan_output items f.1)
scan_output (reference_item path ∷ items) f =
    ap (λ (o : Option (List ℕ)). scan (0xfe ∷ (bytes_or_none o ++ output items))) f.0.1
    ∙ reference_first (path_bytes (path ++ true ∷ [])) f.0.0 (output items) f.0.1
    ∙ ap (λ (l : List Kind). kind_of (reference_item path) ∷ l) (scan_output items f.1)

-- So the counts are the same: a count of items that is a count of their kinds.
same_total : (count : Item → ℕ) (of_kind : Kind → ℕ) → ((i : Item) → count i ≡ of_kind (kind_of i)) → (items : List Item) → total count items ≡ total of_kind (map kind_of items)
same_total count of_kind h [] = refl
same_total count of_kind h (i ∷ items) = omega (arith, h i, same_total count of_kind h items)

-- What a scan of the output counts.
pub references_scanned : (items : List Item) → All Formed items → references items ≡ scanned_references (output items)
references_scanned items f = same_total _ is_reference by_item items ∙ ap (total is_reference) (sym (scan_output items f))
  where
    by_item : (i : Item) → reference_count i ≡ is_reference (kind_of i)
    by_item cons_item = refl
    by_item (atom_item bytes) = refl
    by_item (reference_item path) = refl

pub prefix_bytes_scanned : (items : List Item) → All Formed items → prefix_bytes items ≡ scanned_prefixes (output items)
prefix_bytes_scanned items f = same_total _ prefix_of by_item items ∙ ap (total prefix_of) (sym (scan_output items f))
  where
    by_item : (i : Item) → item_prefix i ≡ prefix_of (kind_of i)
    by_item cons_item = refl
    by_item (atom_item bytes) = refl
    by_item (reference_item path) = refl
