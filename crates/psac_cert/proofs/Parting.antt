-- Two texts that are compared piece by piece.
use Rattle.std.proofs.Common.{◌≡◌, ◌∙◌, ℕ, ◌+◌, ◌-◌, ◌<◌, ◌≤◌, ◌&&◌, Bool, true, false, cond, List, [], ◌∷◌, ◌++◌, length, length-drop}
use Rattle.std.proofs.Common.{drop, take, refl, ap, sym, arith}
use Rattle.std.specs.Prelude.{nat_eq}
use Rattle.std.specs.Str.{bytes_eq}
use Rattle.std.specs.List.{common_prefix_len}
use Rattle.std.proofs.lemmas.List.{drop-drop, take_all}
use Rattle.std.proofs.lemmas.List.Sums.{common_prefix_len-le}
use Rattle.std.proofs.Math.Seq.{drop-length}
use Rattle.psac_report.specs.Dump.{Verdict, Yes, No, compared_with}
use Rattle.psac_cert.specs.Compared.{parted}

abbrev common : List ℕ → List ℕ → ℕ
common xs ys = common_prefix_len nat_eq xs ys

-- the verdict by whether the texts are equal, and by how much they have in common
abbrev found : Bool → ℕ → Verdict
found same n = cond same Yes (No n)

pub parted_whole : (text right : List ℕ) → parted 0 text right ≡ compared_with text right
parted_whole text right = ap (λ (n : ℕ). found (bytes_eq text right) n) (omega arith)

-- nothing is in common behind the end of either
pub none_behind : (xs ys : List ℕ) (n : ℕ)
    → (length xs ≤ n → common (drop n xs) (drop n ys) ≡ 0) × (length ys ≤ n → common (drop n xs) (drop n ys) ≡ 0)
none_behind xs ys n =
    let most = common_prefix_len-le nat_eq (drop n xs) (drop n ys) in
    (λ over. omega (arith, over, most.0, length-drop n xs), λ over. omega (arith, over, most.1, length-drop n ys))

-- one more piece is the same
step : (at : ℕ) (rest line left : List ℕ) → length line ≤ common rest line
    → parted at rest (line ++ left) ≡ parted (at + length line) (drop (length line) rest) left
step at rest [] left l = ap (λ (n : ℕ). found (bytes_eq rest left) n) (omega arith)
step at [] (y ∷ line) left l = absurd (omega (arith, l))
step at (x ∷ rest) (y ∷ line) left l = by (nat_eq x y) (λ few. step (at + 1) rest line left few) l
  where
    by : (b : Bool)
        → (length line ≤ common rest line
        → parted (at + 1) rest (line ++ left) ≡ parted (at + 1 + length line) (drop (length line) rest) left)
        → length (y ∷ line) ≤ cond b (1 + common rest line) 0
        → found (b && bytes_eq rest (line ++ left)) (at + cond b (1 + common rest (line ++ left)) 0)
        ≡ parted (at + length (y ∷ line)) (drop (length line) rest) left
    by true behind few =
        ap (λ (n : ℕ). found (bytes_eq rest (line ++ left)) n) (omega arith) ∙ behind (omega (arith, few))
        ∙ ap (λ (n : ℕ). parted n (drop (length line) rest) left) (omega arith)
    by false behind few = absurd (omega (arith, few))

-- the next piece differs
other : (rest line left : List ℕ) → common rest line < length line → bytes_eq rest (line ++ left) ≡ false
other rest [] left l = absurd (omega (arith, l))
other [] (y ∷ line) left l = refl
other (x ∷ rest) (y ∷ line) left l = by (nat_eq x y) (λ few. other rest line left few) l
  where
    by : (b : Bool) → (common rest line < length line → bytes_eq rest (line ++ left) ≡ false)
        → cond b (1 + common rest line) 0 < length (y ∷ line)
        → (b && bytes_eq rest (line ++ left)) ≡ false
    by true behind few = behind (omega (arith, few))
    by false behind few = refl

front : (rest line left : List ℕ) → common rest line < length line → common rest (line ++ left) ≡ common rest line
front rest [] left l = absurd (omega (arith, l))
front [] (y ∷ line) left l = refl
front (x ∷ rest) (y ∷ line) left l = by (nat_eq x y) (λ few. front rest line left few) l
  where
    by : (b : Bool) → (common rest line < length line → common rest (line ++ left) ≡ common rest line)
        → cond b (1 + common rest line) 0 < length (y ∷ line)
        → cond b (1 + common rest (line ++ left)) 0 ≡ cond b (1 + common rest line) 0
    by true behind few = ap (λ (n : ℕ). 1 + n) (behind (omega (arith, few)))
    by false behind few = refl

pub differs : (at n : ℕ) (rest line left right : List ℕ) → right ≡ line ++ left → n ≡ common rest line → n < length line
    → parted at rest right ≡ No (at + n)
differs at n rest line left right next is few =
    let short : common rest line < length line = omega (arith, is, few) in
    ap (λ (xs : List ℕ). parted at rest xs) next
    ∙ ap (λ (b : Bool). found b (at + common rest (line ++ left))) (other rest line left short)
    ∙ ap (λ (k : ℕ). No (at + k)) (front rest line left short ∙ sym is)

all_of : (n : ℕ) (text line : List ℕ) → n ≡ common text line → length line ≤ n → n ≡ length line
all_of n text line is all = let most = (common_prefix_len-le nat_eq text line).1 in omega (arith, is, all, most)

pub goes_on : (at n : ℕ) (text line left right : List ℕ) → right ≡ line ++ left → n ≡ common (drop at text) line → length line ≤ n
    → parted at (drop at text) right ≡ parted (at + n) (drop (at + n) text) left
goes_on at n text line left right next is all =
    let whole = all_of n (drop at text) line is all in
    ap (λ (xs : List ℕ). parted at (drop at text) xs) next
    ∙ step at (drop at text) line left (omega (arith, is, all))
    ∙ ap (λ (k : ℕ). parted (at + k) (drop k (drop at text)) left) (sym whole)
    ∙ ap (λ (xs : List ℕ). parted (at + n) xs left) (drop-drop n at text)

-- of the rest of a text, which is taken whole
rest_of : (at : ℕ) (text : List ℕ) → take (length text - at) (drop at text) ≡ drop at text
rest_of at text = take_all (length text - at) (drop at text) (omega (arith, length-drop at text))

pub common_at : (at n : ℕ) (text line : List ℕ) → n ≡ common (take (length text - at) (drop at text)) line → n ≡ common (drop at text) line
common_at at n text line is = is ∙ ap (λ (xs : List ℕ). common xs line) (rest_of at text)

pub within_at : (at n : ℕ) (text : List ℕ) → at ≤ length text → n ≤ length (take (length text - at) (drop at text)) → at + n ≤ length text
within_at at n text within few =
    let e = ap (λ (xs : List ℕ). length xs) (rest_of at text) in
    let f = length-drop at text in
    omega (arith, within, few, e, f)

-- the first piece
pub starts : (n : ℕ) (text line left right : List ℕ) → right ≡ line ++ left → n ≡ common text line → length line ≤ n
    → compared_with text right ≡ parted n (drop n text) left
starts n text line left right next is all =
    let whole = all_of n text line is all in
    sym (parted_whole text right) ∙ ap (λ (xs : List ℕ). parted 0 text xs) next ∙ step 0 text line left (omega (arith, is, all))
    ∙ ap (λ (k : ℕ). parted k (drop (length line) text) left) (omega arith) ∙ ap (λ (k : ℕ). parted k (drop k text) left) (sym whole)

pub starts_other : (n : ℕ) (text line left right : List ℕ) → right ≡ line ++ left → n ≡ common text line → n < length line
    → compared_with text right ≡ No n
starts_other n text line left right next is few =
    sym (parted_whole text right) ∙ differs 0 n text line left right next is few ∙ ap (λ (k : ℕ). No k) (omega arith)

-- nothing is left of the dump
pub ends_yes : (at : ℕ) (text right : List ℕ) → right ≡ [] → at ≤ length text → length text ≤ at → parted at (drop at text) right ≡ Yes
ends_yes at text right none within over =
    let all : at ≡ length text = omega (arith, within, over) in
    ap (λ (xs : List ℕ). parted at (drop at text) xs) none
    ∙ ap (λ (xs : List ℕ). parted at xs []) (ap (λ (k : ℕ). drop k text) all ∙ drop-length text)

pub ends_no : (at : ℕ) (text right : List ℕ) → right ≡ [] → at < length text → parted at (drop at text) right ≡ No at
ends_no at text right none more =
    ap (λ (xs : List ℕ). parted at (drop at text) xs) none ∙ by (drop at text) (omega (arith, length-drop at text, more))
  where
    by : (rest : List ℕ) → 0 < length rest → parted at rest [] ≡ No at
    by [] few = absurd (omega (arith, few))
    by (x ∷ rest) few = ap (λ (k : ℕ). No k) (omega arith)
