-- Lines, and lists of them, one more.
use Rattle.std.specs.List.{IsFirstMatchOrLen}
use Rattle.std.specs.Bool.{MatchBool}
use Rattle.std.proofs.Common.{Bool, cond, Err, eqb, true, false, suc, length-append, ◌≡◌, ℕ, ◌+◌, ◌<◌, ◌≤◌, List, [], ◌∷◌, ◌++◌, map, length, get_or, sym, refl, ap, ◌∙◌, arith}
use Rattle.std.proofs.lemmas.List.{get_or_append_left, get_or_at, append_assoc, append-nil, map_push}
use Rattle.std.proofs.lemmas.Bool.{eqb-true}
use Rattle.corrections.specs.declared.calls.Call.{Call}
use Rattle.call_list.specs.Lines.{Said, said_by}
use Rattle.call_list.specs.declared.expected.Unread.{Unread}
use Rattle.call_list.specs.declared.expected.Unread.TheVariants.{Malformed, NoMemory}
use Rattle.call_list.specs.declared.reading.CallList.{CallList}
use Rattle.call_list.specs.Lists.{Adds, Listed, Lists, all, at_line, held, stops, joined, lines_of, listed, onto}

-- The calls of a text that is still to be split into lines; none, once all of it was.
abbrev pub to_come : ℕ → Bool → List ℕ → Listed
to_come n done rest = cond done (all [] []) (listed n (lines_of rest))

-- None of the bytes ends a line.
abbrev Endless : List ℕ → Type 0
Endless x = (k d : ℕ) → k < length x → eqb (get_or x k d) 10 ≡ false

line_before : (x r : List ℕ) → Endless x → lines_of (x ++ (10 ∷ r)) ≡ x ∷ lines_of r
line_before [] r h = refl
line_before (b ∷ x) r h = rw (h 0 0 (omega arith)) (ap (onto b) (line_before x r (λ k d lt. h (suc k) d (omega arith))))

only_line : (b : ℕ) (x : List ℕ) → Endless (b ∷ x) → lines_of (b ∷ x) ≡ (b ∷ x) ∷ []
only_line b [] h = rw (h 0 0 (omega arith)) refl
only_line b (a ∷ x) h = rw (h 0 0 (omega arith)) (ap (onto b) (only_line a x (λ k d lt. h (suc k) d (omega arith))))

last_line : (n : ℕ) (x : List ℕ) → Endless x → listed n (lines_of x) ≡ at_line (n + 1) x (all [] [])
last_line n [] h = refl
last_line n (b ∷ x) h = ap (listed n) (only_line b x h)

-- One line is split off, up to its end or up to the end of the text.
abbrev pub SplitOff : Bool → List ℕ → List ℕ → List ℕ → Type 0
SplitOff done rest x r = MatchBool done (rest ≡ x) ((y : ℕ) × (rest ≡ x ++ (y ∷ r)))

pub next_line : (n : ℕ) (before done : Bool) (rest x r : List ℕ) → before ≡ false → SplitOff done rest x r → IsFirstMatchOrLen (λ b. eqb b 10) rest (length x) → to_come n before rest ≡ at_line (n + 1) x (to_come (n + 1) done r)
next_line n before true rest x r going is first = rw going (ap (λ z. listed n (lines_of z)) is ∙ last_line n x (λ k d lt. rw is at (first.0 k d (omega arith) lt)))
next_line n before false rest x r going (y, is) first =
    let inner : Endless x = λ k d lt. sym (ap (λ b. eqb b 10) (get_or_append_left x (y ∷ r) d k lt)) ∙ (rw is at (first.0 k d (omega arith) lt)) in
    let longer : length x < length rest = let e = ap length is ∙ length-append x (y ∷ r) in omega arith in
    let ten : y ≡ 10 = eqb-true y 10 (sym (ap (λ b. eqb b 10) (get_or_at x y r 0 (length x) refl)) ∙ (rw is at (first.1 longer 0))) in
    rw going
    (ap (λ z. listed n (lines_of z)) (is ∙ ap (λ z. x ++ (z ∷ r)) ten)
    ∙ ap (listed n) (line_before x r inner))

pub less_to_come : (n len : ℕ) (before done : Bool) (rest x r : List ℕ) → before ≡ false → SplitOff done rest x r → cond before 0 (n + length rest) ≤ len → cond done 0 ((n + 1) + length r) ≤ len
less_to_come n len before true rest x r going is within = omega arith
less_to_come n len before false rest x r going (y, is) within =
    let e = ap length is ∙ length-append x (y ∷ r) in
    let within' = rw going at within in
    omega arith

pub stops_here : (u : Unread) (v w : CallList) (n : ℕ) (l t : List ℕ) (rest : Listed) → listed 0 (lines_of t) ≡ held v (at_line n l rest) → Adds (Err u) v n l w → Lists (Err u) t
stops_here (Malformed m e) v w n l t rest so_far adds = so_far ∙ adds rest
stops_here NoMemory v w n l t rest so_far adds = tt

-- Calls that are held.
joined-joined : (ns ms : List ℕ) (ss ts : List Said) (l : Listed) → joined ns ss (joined ms ts l) ≡ joined (ns ++ ms) (ss ++ ts) l
joined-joined ns ms ss ts (all ks us) = let e = append_assoc ns ms ks in let f = append_assoc ss ts us in cc
joined-joined ns ms ss ts (stops n e) = refl

pub held_more : (ns ns' : List ℕ) (cs cs' : List Call) (n : ℕ) (c : Call) → ns' ≡ ns ++ (n ∷ []) → cs' ≡ cs ++ (c ∷ []) → (rest : Listed) → joined ns (map said_by cs) (joined (n ∷ []) (said_by c ∷ []) rest) ≡ joined ns' (map said_by cs') rest
held_more ns ns' cs cs' n c a b rest =
    joined-joined ns (n ∷ []) (map said_by cs) (said_by c ∷ []) rest
    ∙ ap (λ x. joined x (map said_by cs ++ (said_by c ∷ [])) rest) (sym a)
    ∙ ap (λ x. joined ns' x rest) (sym (map_push said_by cs c) ∙ ap (map said_by) (sym b))

pub held_all : (t rest ns : List ℕ) (ss : List Said) (n : ℕ) → length rest ≡ 0 → listed 0 (lines_of t) ≡ joined ns ss (listed n (lines_of rest)) → listed 0 (lines_of t) ≡ all ns ss
held_all t [] ns ss n none so_far = let e = append-nil ns in let f = append-nil ss in so_far ∙ (cc)
held_all t (b ∷ bs) ns ss n none so_far = absurd (omega arith)
