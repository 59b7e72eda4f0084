-- Questions asked one after another, each by a test at each of its places: the verdict is the one that what they want decides.
use mathlib.Core.Path.{◌≡◌, refl, sym, ap₂, ◌∙◌, subst}
use mathlib.Core.Logic.{◌⊎◌, inl, inr}
use mathlib.Core.Bool.{Bool, true, false}
use mathlib.Core.List.{List, [], ◌∷◌}
use Prim.Native.Nat.{ℕ, ◌+◌, ◌-◌, ◌≤◌, ◌<◌}
use native.Mathlib.Decide.{dec_lt}
use native.Mathlib.Omega.{arith}
use Rattle.method.specs.Verdicts.{Place, Verdict, accepted, refused, nowhere, ◌then◌, ask, first_to, each_in_row, each_cell}
use Rattle.method.specs.QuestionTable.{Question, Passed, Before, FirstNo, AllPassed, FirstNoOf, DecidedBy, question_of_cells, question_once, Cell}
use Rattle.method.proofs.Tests.{Says, differ}
use Rattle.method.proofs.FirstRefusal.{not_both, ask_accepted, ask_refused, then_accepted, then_refused, first_accepted, FirstOf, first_refused}

-- ---- A question, asked by a test at each place

-- where the question is asked if `Asked`, and wants `Wanted`
pub record Told (b : Bool) (Asked Wanted : Type 0) : Type 0 where
  pub yes : b ≡ true → Asked → Wanted
  pub no : b ≡ false → Asked × (¬ Wanted)

pub told : {b : Bool} {Asked Wanted : Type 0} → Asked → Says b Wanted → Told b Asked Wanted
told a s = record { yes = λ e x. s.sound e; no = λ e. (a, λ x. differ (s.complete x) e) }

-- where it is asked only if P, and the test passes where not
pub told_where : {b : Bool} {Place P Wanted : Type 0} → Place → Dec P → Says b (P → Wanted) → Told b (Place × P) Wanted
told_where here (yes p) s = record { yes = λ e x. s.sound e p; no = λ e. ((here, p), λ x. differ (s.complete (λ p. x)) e) }
told_where here (no p) s = record { yes = λ e x. absurd (p x.1); no = λ e. absurd (differ (s.complete (λ x. absurd (p x))) e) }

-- v is the verdict of the question alone
pub record Answers (v : Verdict) (q : Question) : Type 0 where
  pub yes : v ≡ accepted → Passed q
  pub no : (number : ℕ) (p : Place) → v ≡ refused number p → FirstNo q number p

pub asked_once : {b : Bool} {number : ℕ} {P : Type 0} → Says b P → Answers (ask b number nowhere) (question_once number P)
asked_once {b} {number = question} s = record {
  yes = λ e i k x. s.sound (ask_accepted b question nowhere e);
  no = λ number p e. record {
    i = 0;
    k = 0;
    asked = (refl, refl);
    no = λ x. differ (s.complete x) (ask_refused b question nowhere e).0;
    yes_before = λ a b x l. absurd (none_before a b l);
    number_is = (ask_refused b question nowhere e).1;
    place_is = (ask_refused b question nowhere e).2;
  };
}
  where
    none_before : (a b : ℕ) → Before a b 0 0 → ⊥
    none_before a b (inl l) = omega arith
    none_before a b (inr l) = omega (arith, l.1)

-- k is one of the years col 1, …, col len
pub record OneOf (len : ℕ) (col : ℕ → ℕ) (k : ℕ) : Type 0 where
  pub j : ℕ
  pub first : 1 ≤ j
  pub last : j ≤ len
  pub is : k ≡ col j

-- a question that is asked in row i only
module _ (q : Question) (i len : ℕ) (col : ℕ → ℕ) (test : ℕ → Bool)
    (inside : (a k : ℕ) → q.asked_at a k → (a ≡ i) × OneOf len col k)
    (rising : (j j' : ℕ) → col j < col j' → j < j')
    (cell : (j : ℕ) → 1 ≤ j → j ≤ len → Told (test j) (q.asked_at i (col j)) (q.wants i (col j))) where
  abbrev row_asks : ℕ → Verdict
  row_asks j = ask (test j) (q.number_at i (col j)) (q.place_at i (col j))

  wanted : (a k : ℕ) → a ≡ i → (x : OneOf len col k) → row_asks x.j ≡ accepted → q.asked_at a k → q.wants a k
  wanted a k s x e =
      subst (λ (b : ℕ). q.asked_at b k → q.wants b k) (sym s)
      (subst (λ (c : ℕ). q.asked_at i c → q.wants i c) (sym x.is)
      ((cell x.j x.first x.last).yes (ask_accepted (test x.j) (q.number_at i (col x.j)) (q.place_at i (col x.j)) e)))

  pub asked_in_row : Answers (first_to len (λ j. ask (test j) (q.number_at i (col j)) (q.place_at i (col j)))) q
  asked_in_row = record {
    yes = λ e a k x. let (s, y) = inside a k x in wanted a k s y (first_accepted len row_asks e y.j y.first y.last) x;
    no = λ number p e.
        let f : FirstOf len row_asks number p = first_refused len row_asks e in
        let r = ask_refused (test f.j) (q.number_at i (col f.j)) (q.place_at i (col f.j)) f.refuses in
        let c = (cell f.j f.first f.last).no r.0 in
        record {
          i = i;
          k = col f.j;
          asked = c.0;
          no = c.1;
          yes_before = λ a b x l. let (s, y) = inside a b x in wanted a b s y (f.before y.j y.first (earlier a b f.j s y l)) x;
          number_is = r.1;
          place_is = r.2;
        };
  }
    where
      earlier : (a b j : ℕ) → a ≡ i → (y : OneOf len col b) → Before a b i (col j) → y.j < j
      earlier a b j s y (inl l) = absurd (omega arith)
      earlier a b j s y (inr l) = rising y.j j (omega (arith, l.1, y.is))

abbrev pub in_row : ℕ → Question → Question
in_row i q = record { asked_at = λ a k. (a ≡ i) × q.asked_at a k; wants = q.wants; number_at = q.number_at; place_at = q.place_at }

pub in_own_row : {b : Bool} {i : ℕ} {Asked Wanted : Type 0} → Told b Asked Wanted → Told b ((i ≡ i) × Asked) Wanted
in_own_row t = record { yes = λ e x. t.yes e x.1; no = λ e. ((refl, (t.no e).0), (t.no e).1) }

-- and one that is asked in rows 1 to m
pub asked_row_by_row : (q : Question) (m : ℕ) (f : ℕ → Verdict) → ((i k : ℕ) → q.asked_at i k → (1 ≤ i) × (i ≤ m))
    → ((i : ℕ) → 1 ≤ i → i ≤ m → Answers (f i) (in_row i q)) → Answers (first_to m f) q
asked_row_by_row q m f inside each = record {
  yes = λ e i k x. passed i k x (first_accepted m f e i (inside i k x).0 (inside i k x).1);
  no = λ number p e. first number p (first_refused m f e);
}
  where
    passed : (i k : ℕ) → q.asked_at i k → f i ≡ accepted → q.wants i k
    passed i k x e = (each i (inside i k x).0 (inside i k x).1).yes e i k (refl, x)

    first : (number : ℕ) (p : Place) → FirstOf m f number p → FirstNo q number p
    first number p r =
        let x : FirstNo (in_row r.j q) number p = (each r.j r.first r.last).no number p r.refuses in
        record {
          i = x.i;
          k = x.k;
          asked = x.asked.1;
          no = x.no;
          yes_before = λ a b y l. before a b y x l;
          number_is = x.number_is;
          place_is = x.place_is;
        }
      where
        before : (a b : ℕ) → q.asked_at a b → (x : FirstNo (in_row r.j q) number p) → Before a b x.i x.k → q.wants a b
        before a b y x (inl l) = passed a b y (r.before a (inside a b y).0 (omega (arith, x.asked.0)))
        before a b y x (inr l) = x.yes_before a b (l.0 ∙ x.asked.0, y) (inr l)

-- every cell of m rows, of m, m − 1, … cells, with one number
pub asked_cell_by_cell : (number m : ℕ) {asked_at wants : ℕ → ℕ → Type 0} (test : ℕ → ℕ → Bool) → ((i k : ℕ) → asked_at i k → Cell (m + 1) i k)
    → ((i k : ℕ) → Cell (m + 1) i k → Told (test i k) (asked_at i k) (wants i k)) → Answers (each_cell m number test) (question_of_cells number asked_at wants)
unfolding each_cell each_in_row
asked_cell_by_cell number m {asked_at} {wants} test inside cell =
    asked_row_by_row (question_of_cells number asked_at wants) m (each_in_row m number test) (λ i k x. let (p, r, l) = inside i k x in (p, omega (arith, r, l)))
    (λ i p l. asked_in_row (in_row i (question_of_cells number asked_at wants)) i (m + 1 - i) (λ j. j) (test i)
    (λ a k x. (x.0, let (c, d, e) = inside a k x.1 in record { j = k; first = d; last = omega (arith, e, x.0); is = refl }))
    (λ j j' r. r)
    (λ j f e. in_own_row (cell i j (p, f, omega arith))))

-- ---- Questions one after another

pub record AnswersAll (v : Verdict) (qs : List Question) : Type 0 where
  pub all : v ≡ accepted → AllPassed qs
  pub first : (number : ℕ) (p : Place) → v ≡ refused number p → FirstNoOf qs number p

pub none : AnswersAll accepted []
none = record { all = λ e. tt; first = λ number p e. absurd (not_both refl e) }

pub last_asked : {v : Verdict} {q : Question} → Answers v q → AnswersAll v (q ∷ [])
last_asked a = record { all = λ e. (a.yes e, tt); first = λ number p e. inl (a.no number p e) }

infixr 20 ◌and_then◌
pub ◌and_then◌ : {v w : Verdict} {q : Question} {qs : List Question} → Answers v q → AnswersAll w qs → AnswersAll (v then w) (q ∷ qs)
◌and_then◌ {v} {w} {q} {qs} a b = record {
  all = λ e. (a.yes (then_accepted v w e).0, b.all (then_accepted v w e).1);
  first = λ number p e. go number p (then_refused v w e);
}
  where
    go : (number : ℕ) (p : Place) → (v ≡ refused number p) ⊎ ((v ≡ accepted) × (w ≡ refused number p)) → FirstNoOf (q ∷ qs) number p
    go number p (inl e) = inl (a.no number p e)
    go number p (inr e) = inr (a.yes e.0, b.first number p e.1)

-- ---- Accepted and refused exclude each other, and a first no is the only one

first_is_no : (q : Question) (number : ℕ) (p : Place) → FirstNo q number p → Passed q → ⊥
first_is_no q number p x h = x.no (h x.i x.k x.asked)

order : (i k a b : ℕ) → Before i k a b ⊎ (Before a b i k ⊎ ((i ≡ a) × (k ≡ b)))
order i k a b = go (dec_lt i a) (dec_lt a i) (dec_lt k b) (dec_lt b k)
  where
    go : Dec (i < a) → Dec (a < i) → Dec (k < b) → Dec (b < k) → Before i k a b ⊎ (Before a b i k ⊎ ((i ≡ a) × (k ≡ b)))
    go (yes l) u v w = inl (inl l)
    go (no l) (yes u) v w = inr (inl (inl u))
    go (no l) (no u) (yes v) w = inl (inr (omega arith, v))
    go (no l) (no u) (no v) (yes w) = inr (inl (inr (omega arith, w)))
    go (no l) (no u) (no v) (no w) = inr (inr (omega arith, omega arith))

one_first : (q : Question) (m m' : ℕ) (p p' : Place) → FirstNo q m p → FirstNo q m' p' → refused m p ≡ refused m' p'
one_first q m m' p p' x y = go (order x.i x.k y.i y.k)
  where
    go : Before x.i x.k y.i y.k ⊎ (Before y.i y.k x.i x.k ⊎ ((x.i ≡ y.i) × (x.k ≡ y.k))) → refused m p ≡ refused m' p'
    go (inl l) = absurd (x.no (y.yes_before x.i x.k x.asked l))
    go (inr (inl l)) = absurd (y.no (x.yes_before y.i y.k y.asked l))
    go (inr (inr e)) = ap₂ refused (x.number_is ∙ ap₂ q.number_at e.0 e.1 ∙ sym y.number_is) (x.place_is ∙ ap₂ q.place_at e.0 e.1 ∙ sym y.place_is)

not_all : (qs : List Question) (number : ℕ) (p : Place) → FirstNoOf qs number p → AllPassed qs → ⊥
not_all [] number p x h = x
not_all (q ∷ qs) number p (inl x) h = first_is_no q number p x h.0
not_all (q ∷ qs) number p (inr x) h = not_all qs number p x.1 h.1

first_once : (qs : List Question) (m m' : ℕ) (p p' : Place) → FirstNoOf qs m p → FirstNoOf qs m' p' → refused m p ≡ refused m' p'
first_once [] m m' p p' x y = absurd x
first_once (q ∷ qs) m m' p p' (inl x) (inl y) = one_first q m m' p p' x y
first_once (q ∷ qs) m m' p p' (inl x) (inr y) = absurd (first_is_no q m p x y.0)
first_once (q ∷ qs) m m' p p' (inr x) (inl y) = absurd (first_is_no q m' p' y x.0)
first_once (q ∷ qs) m m' p p' (inr x) (inr y) = first_once qs m m' p p' x.1 y.1

accepted_if : (v : Verdict) (qs : List Question) → AnswersAll v qs → AllPassed qs → v ≡ accepted
accepted_if accepted qs a h = refl
accepted_if (refused question p) qs a h = absurd (not_all qs question p (a.first question p refl) h)

refused_if : (v : Verdict) (qs : List Question) → AnswersAll v qs → (number : ℕ) (p : Place) → FirstNoOf qs number p → v ≡ refused number p
refused_if accepted qs a number p x = absurd (not_all qs number p x (a.all refl))
refused_if (refused question p') qs a number p x = first_once qs question number p' p (a.first question p' refl) x

pub decided : {v : Verdict} {qs : List Question} → AnswersAll v qs → DecidedBy qs v
decided {v} {qs} a = record { accepted_exactly = (a.all, accepted_if v qs a); refused_exactly = λ number p. (a.first number p, refused_if v qs a number p) }
