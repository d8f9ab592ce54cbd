-- Where octets end inside of a VarUInt, or end one or a header, the machine has come so far.
use Rattle.std.proofs.Common.{◌≡◌, ℕ, ◌+◌, ◌*◌, ◌^◌, ◌<◌, ◌≤◌, List, [], ◌∷◌, ◌++◌, length, Ok, Err, None, refl, ap, sym, ◌∙◌, subst, arith, length-append, append-nil, append_assoc, lt-ltb, ne_eqb}
use Rattle.std.proofs.lemmas.Bool.{cond-true, cond-false}
use Rattle.ion_refusals.specs.BinaryNames.{Before, Catalog, Count, Digits128, EndsHeader, EndsNumber, Form, Frame, Headed, Id, InNumber, Items, LastOctet, Length, Limits, MayGoOn, Name, Named, Noted, Number, Open, Outcome, Phase, Purpose, Ready, Reason, Slot, TakesValue, Value, a_count, a_length, a_name, an_id, at, by_descriptor, by_length, feed, goes, initial, led, more, nameless, none, number_came, of_annotations, of_container, of_struct, of_wrapper, on_descriptor, past, positional, reason_number, refuses, run, run-append, run_after, run_on, run_via, sized, spot_at, then_run, under, unending, unless}
use Rattle.ion_binary.specs.Deciding as deciding
use Rattle.ion_binary.specs.Deciding.{Container, Names}
use Rattle.ion_binary.specs.machine.Frames as frames
use Rattle.ion_binary.specs.laws.reading.Complete.{count_goes, digits_more, ids_run, last_step, number_run, too_long_none}
use Rattle.ion_refusals.proofs.refusals.OpenRuns.{Leads, headed_run, may_admit, open_run, phase_of, takes_phase}
use Rattle.ion_binary.specs.laws.reading.OpenFrames.{InFrames, Match, count_in, id_in, items, length_in, name_in, named, names, noted, nothing_open, purpose_of}

-- refused for this reason or one with a smaller number
abbrev pub Least : Reason → Outcome → Type 0
Least f o = (e : Reason) × (o ≡ refuses e) × (reason_number e ≤ reason_number f)

module _ (g : Catalog) (l : Limits) where
  -- the last of these octets is refused, for this reason or one with a smaller number
  pub record Stopped (u : List ℕ) (e : Reason) : Type 0 where
    pub reason : Reason
    pub now : (run g l 0 initial u).now ≡ Err (record { offset = length u; reason = reason })
    pub least : reason_number reason ≤ reason_number e

  module _ (c : List Slot) (start : ℕ) where
    -- where a descriptor comes next, the machine is ready for one
    pub ready : (ks : List Container) → TakesValue ks → phase_of ks ≡ Ready
    ready (Names end ∷ ks) h = absurd h
    ready _ h = refl

    -- the octets lead there
    pub record Holds (fs : List Frame) (phase : Phase) (u : List ℕ) : Type 0 where
      pub given : List (Value × ℕ)
      pub ran : run g l 0 initial u ≡ record { given = given; now = Ok (at (spot_at (length u) start c) fs phase) }

    -- an octet that the machine refuses behind these is refused, for this reason or a smaller one
    pub stops_with : (fs : List Frame) (phase : Phase) (u : List ℕ) (b : ℕ) (e f : Reason) → (o : Holds fs phase u)
        → feed (under g l) (at (spot_at (length u) start c) fs phase) b ≡ refuses e → reason_number e ≤ reason_number f → Stopped (u ++ b ∷ []) f
    stops_with fs phase u b e f o fed small =
        let k = length-append u (b ∷ []) in
        record {
          reason = e;
          now = ap (λ x. x.now) (run-append g l 0 (length u) u (b ∷ []) (omega arith) initial)
              ∙ (ap (λ x. (then_run x (λ n. run g l (length u) n (b ∷ []))).now) o.ran
              ∙ (ap (λ x. (run_on (length u + 1) (λ n. run g l (length u + 1) n []) x).now) fed
              ∙ ap (λ n. Err (record { offset = n; reason = e })) (let j : length u + 1 ≡ length (u ++ b ∷ []) = omega arith in j)));
          least = small;
        }

    pub holds_via : (fs hs : List Frame) (phase then' : Phase) (u w v : List ℕ) → (o : Holds fs phase u) → v ≡ u ++ w
        → run g l (length u) (at (spot_at (length u) start c) fs phase) w ≡ led (at (spot_at (length v) start c) hs then') → Holds hs then' v
    holds_via fs hs phase then' u w v o e r = record {
      given = o.given ++ [];
      ran = ap (λ x. run g l 0 initial x) e
          ∙ (run-append g l 0 (length u) u w (omega arith) initial
          ∙ (ap (λ x. then_run x (λ n. run g l (length u) n w)) o.ran
          ∙ ap (λ x. record { given = o.given ++ x.given; now = x.now }) r));
    }

    -- an octet with which the machine goes on behind these leads on
    pub goes_with : (fs hs : List Frame) (phase then' : Phase) (u : List ℕ) (b : ℕ) → (o : Holds fs phase u)
        → feed (under g l) (at (spot_at (length u) start c) fs phase) b ≡ goes (at (spot_at (length u + 1) start c) hs then') → Holds hs then' (u ++ b ∷ [])
    goes_with fs hs phase then' u b o fed =
        let k = length-append u (b ∷ []) in
        holds_via fs hs phase then' u (b ∷ []) (u ++ b ∷ []) o refl
        (ap (run_after (length u + 1)) fed ∙ ap (λ n. led (at (spot_at n start c) hs then')) (let j : length u + 1 ≡ length (u ++ b ∷ []) = omega arith in
        j))

    -- octets that lead to open containers lead to their frames
    pub leads_holds : (ks : List Container) (u : List ℕ) → (d : Leads g l c start ks u) → Holds d.fs (phase_of ks) u
    leads_holds ks u d = record { given = d.given; ran = d.ran }

    pub goes_last : (ks : List Container) (p : Number) (used last : ℕ) → MayGoOn g l c start ks p used → LastOctet g l c start ks p last → used < last
    goes_last _ _ used _ h (of_container k ks form) = h (deciding.container_end k) (of_container k ks form)
    goes_last _ _ used _ h (of_struct end ks) = h end (of_struct end ks)
    goes_last [] _ used last h (of_wrapper _ _) = h last (of_wrapper [] last)
    goes_last (k ∷ ks) _ used last h (of_wrapper _ _) = h last (of_wrapper (k ∷ ks) last)
    goes_last [] _ used last h (of_annotations _ _) = h last (of_annotations [] last)
    goes_last (k ∷ ks) _ used last h (of_annotations _ _) = h last (of_annotations (k ∷ ks) last)

    go_less : (ks : List Container) (p : Number) (a b : ℕ) → a ≤ b → MayGoOn g l c start ks p b → MayGoOn g l c start ks p a
    go_less [] (Length form) a b i h = λ e. let k = h e in omega arith
    go_less (k ∷ ks) p a b i h = λ last r. let j = h last r in omega arith
    go_less _ _ a b i h = λ last r. let k = h last r in omega arith

    -- where it may go on, the machine goes on
    pub past_none : (ks : List Container) (p : Number) (fs : List Frame) (used : ℕ) → MayGoOn g l c start ks p used → InFrames c ks p fs
        → past l.item start fs (purpose_of p) used ≡ None
    past_none _ _ _ used h (length_in _ form _ nothing_open) = too_long_none l.item start form used h
    past_none _ _ _ used h (length_in _ form _ (items end x vs fs ks m)) =
        cond-true _ _ _ (lt-ltb used end (goes_last (Items end ∷ ks) (Length form) used end h (of_container (Items end) ks form)))
    past_none _ _ _ used h (length_in _ form _ (names end ms fs ks m)) =
        cond-true _ _ _ (lt-ltb used end (goes_last (Names end ∷ ks) (Length form) used end h (of_container (Names end) ks form)))
    past_none _ _ _ used h (length_in _ form _ (named end id ms fs ks m)) =
        cond-true _ _ _ (lt-ltb used end (goes_last (Named end id ∷ ks) (Length form) used end h (of_container (Named end id) ks form)))
    past_none _ _ _ used h (length_in _ form _ (noted end ss fs ks m)) =
        cond-true _ _ _ (lt-ltb used end (goes_last (Noted end ∷ ks) (Length form) used end h (of_container (Noted end) ks form)))
    past_none _ _ _ used h (name_in _ _ _ (names end ms fs ks m)) = cond-true _ _ _ (lt-ltb used end (goes_last _ Name used end h (of_struct end ks)))
    past_none _ _ _ used h (count_in ks end fs m) = cond-true _ _ _ (lt-ltb used end (goes_last ks (Count end) used end h (of_wrapper ks end)))
    past_none _ _ _ used h (id_in ks end stop ss fs m) = cond-true _ _ _ (lt-ltb used stop (goes_last ks (Id stop) used stop h (of_annotations ks stop)))

    -- the octets lead into the number, of which those so far make a
    pub record HoldsIn (ks : List Container) (p : Number) (a : ℕ) (u : List ℕ) : Type 0 where
      pub fs : List Frame
      pub inside : InFrames c ks p fs
      pub holds : Holds fs (InNumber (purpose_of p) a) u

    digit_holds : (ks : List Container) (p : Number) (a d n : ℕ) (u v : List ℕ) → HoldsIn ks p a u → d < 128 → n ≡ 128 * a + d → n < 2 ^ 63 → v ≡ u ++ d ∷ []
        → MayGoOn g l c start ks p (length v) → HoldsIn ks p n v
    digit_holds ks p a d n u v o q e bound i h =
        let k = length-append u (d ∷ []) in
        let k2 = ap length i in
        let j : length v ≡ length u + 1 = omega arith in
        record {
          fs = o.fs;
          inside = o.inside;
          holds = subst (Holds o.fs (InNumber (purpose_of p) n)) (sym i) (goes_with o.fs o.fs _ _ u d o.holds
              (cond-true _ _ _ (lt-ltb d 128 q) ∙ (cond-true _ _ _ (lt-ltb (128 * a + d) (2 ^ 63) (omega arith))
              ∙ (ap (λ x. unless x (goes (at (spot_at (length u + 1) start c) o.fs (InNumber (purpose_of p) (128 * a + d)))))
              (past_none ks p o.fs _ (subst (MayGoOn g l c start ks p) j h) o.inside)
              ∙ ap (λ x. goes (at (spot_at (length u + 1) start c) o.fs (InNumber (purpose_of p) x))) (sym e)))));
        }

    digits_hold : (ks : List Container) (p : Number) (ds : List ℕ) (u : List ℕ) → Digits128 ds → HoldsIn ks p 0 u → positional 128 ds < 2 ^ 63
        → MayGoOn g l c start ks p (length (u ++ ds)) → HoldsIn ks p (positional 128 ds) (u ++ ds)
    digits_hold ks p _ u none o b h = subst (HoldsIn ks p 0) (sym (append-nil u)) o
    digits_hold ks p _ u (more ds d s q) o b h =
        let k = digits_more ds d in
        let k1 = length-append u (ds ++ d ∷ []) in
        let k2 = length-append u ds in
        let k3 = length-append ds (d ∷ []) in
        digit_holds ks p (positional 128 ds) d (positional 128 (ds ++ d ∷ [])) (u ++ ds) (u ++ (ds ++ d ∷ []))
        (digits_hold ks p ds u s o (omega arith) (go_less ks p _ _ (omega arith) h)) q k b (sym (append_assoc u ds (d ∷ []))) h

    -- the header of a wrapper
    wrapper_holds : (ks : List Container) (end : ℕ) (u : List ℕ) → Headed l c start (Open g l c start ks) ks Form.Wrapper end u → length u < end
        → HoldsIn ks (Count end) 0 u
    wrapper_holds ks end u h i =
        let d = open_run g l c start ks h.before h.outer in
        let e = h.ends in
        let here : length u + h.n ≡ end = sym e in
        record {
          fs = frames.Annotated end [] ∷ d.fs;
          inside = count_in ks end d.fs d.match;
          holds = holds_via d.fs _ _ _ h.before _ u (leads_holds ks h.before d) (h.parts ∙ ap (λ x. h.before ++ x) (sym (append-nil h.header)))
              (ap (λ p. run g l (length h.before) (at (spot_at (length h.before) start c) d.fs p) (h.header ++ []))
              (takes_phase g l c start ks Form.Wrapper h.begins)
              ∙ (headed_run g l c start ks d.fs Form.Wrapper end u [] (Open g l c start ks) h (cond-false _ _ _ (ne_eqb h.n 0 (λ x. omega arith))) d.match
              ∙ ap (λ x. led (at (spot_at (length u) start c) (frames.Annotated x [] ∷ d.fs) (InNumber Purpose.AnnotationsLength 0))) here));
        }

    -- before the annotations, none has come yet
    pub count_frames : (ks : List Container) (end : ℕ) (fs : List Frame) → InFrames c ks (Count end) fs
        → (hs : List Frame) × (fs ≡ frames.Annotated end [] ∷ hs) × Match c hs ks
    count_frames _ _ _ (count_in ks end fs m) = (fs, refl, m)

    -- before a number
    before_holds : (ks : List Container) (p : Number) (u : List ℕ) → Before g l c start ks p u → MayGoOn g l c start ks p (length u) → HoldsIn ks p 0 u
    before_holds _ _ _ (a_length ks u b form o i m) h =
        let d = open_run g l c start ks u o in
        let a = may_admit c d.fs ks form d.match m in
        let k = length-append u (b ∷ []) in
        let j : length (u ++ b ∷ []) ≡ length u + 1 = omega arith in
        let G = goes (at (spot_at (length u + 1) start c) d.fs (InNumber (Purpose.Length form) 0)) in
        let inside = length_in ks form d.fs d.match in
        record {
          fs = d.fs;
          inside = inside;
          holds = goes_with d.fs d.fs Ready _ u b (subst (λ p. Holds d.fs p u) (takes_phase g l c start ks form m) (leads_holds ks u d))
              (ap (on_descriptor (under g l) (spot_at (length u + 1) start c) d.fs) i
              ∙ (ap (λ x. unless x (unless (unending l.item start d.fs form (length u + 1)) (unless (nameless d.fs form) G))) a.fitting
              ∙ (ap (λ x. unless x (unless (nameless d.fs form) G)) (past_none ks _ d.fs _ (subst (MayGoOn g l c start ks (Length form)) j h) inside)
              ∙ ap (λ x. unless x G) a.named)));
        }
    before_holds _ _ _ (a_name end ks u o) h =
        let d = open_run g l c start (Names end ∷ ks) u o in
        record { fs = d.fs; inside = name_in end ks d.fs d.match; holds = leads_holds (Names end ∷ ks) u d }
    before_holds _ _ _ (a_count ks end u o) h = wrapper_holds ks end u o (goes_last ks (Count end) (length u) end h (of_wrapper ks end))
    before_holds _ _ _ (an_id ks end n front count ids ss o v some t room) h =
        let w = wrapper_holds ks end front o (omega arith) in
        let f = count_frames ks end w.fs w.inside in
        let k1 = length-append front (count ++ ids) in
        let k2 = length-append count ids in
        let mid = length front + length count in
        let stop = mid + n in
        let u = front ++ (count ++ ids) in
        let before = goes_last ks _ _ stop h (of_annotations ks stop) in
        let there : length u ≡ mid + length ids = omega arith in
        record {
          fs = frames.Annotated end ss ∷ f.0;
          inside = id_in ks end stop ss f.0 f.2;
          holds = holds_via w.fs _ _ _ front _ u w.holds refl
              (ap (λ fs. run g l (length front) (at (spot_at (length front) start c) fs (InNumber Purpose.AnnotationsLength 0)) (count ++ ids)) f.1
              ∙ run_via g l _ mid _ _ _ count ids refl
              (number_run g l (spot_at (length front) start c) (frames.Annotated end [] ∷ f.0) Purpose.AnnotationsLength count n mid v refl (omega arith)
              ∙ ap (run_after mid) (count_goes g l (spot_at mid start c) f.0 end n [] some room))
              (ids_run g l _ f.0 end stop ids ss _ t (omega arith) there (omega arith)
              ∙ ap (λ ph. led (at (spot_at (length u) start c) (frames.Annotated end ss ∷ f.0) ph))
              (cond-false _ _ _ (ne_eqb (length u) stop (λ x. omega arith)))));
        }

    -- inside of a number
    pub number_holds : (ks : List Container) (p : Number) (a : ℕ) (u : List ℕ) → deciding.InNumber g l c start ks p a u → HoldsIn ks p a u
    number_holds ks p a u o =
        let k1 = ap length o.parts in
        let k2 = length-append o.before o.digits in
        let value = o.value in
        let bound = o.bound in
        subst (HoldsIn ks p a) (sym o.parts) (subst (λ x. HoldsIn ks p x (o.before ++ o.digits)) (sym value)
        (digits_hold ks p o.digits o.before o.small (before_holds ks p o.before o.comes (go_less ks p _ _ (omega arith) o.goes_on)) (omega arith)
        (subst (λ x. MayGoOn g l c start ks p (length x)) o.parts o.goes_on)))

    -- at the end of a number
    pub number_stops : (ks : List Container) (p : Number) (n : ℕ) (u : List ℕ) (f : Reason) → EndsNumber g l c start ks p n u
        → ((fs : List Frame) → InFrames c ks p fs → Least f (number_came (under g l) (spot_at (length u) start c) fs (purpose_of p) n)) → Stopped u f
    number_stops ks p n u f o h =
        let i = number_holds ks p o.digits o.before o.inside in
        let r = h i.fs i.inside in
        let k1 = ap length o.parts in
        let k2 = length-append o.before ((128 + o.last) ∷ []) in
        let value = o.value in
        let b = 128 + o.last in
        subst (λ x. Stopped x f) (sym o.parts)
        (stops_with i.fs _ o.before b r.0 f i.holds (last_step g l _ i.fs _ o.digits b (length u) n (omega arith) (omega arith) o.bound (omega arith) ∙ r.1)
        r.2)

    -- the length of a form stands in the frames of its container
    pub length_match : (ks : List Container) (form : Form) (fs : List Frame) → InFrames c ks (Length form) fs → Match c fs ks
    length_match _ _ _ (length_in ks form fs m) = m

    -- at the end of a header
    pub header_stops : (ks : List Container) (form : Form) (n : ℕ) (u : List ℕ) (f : Reason) → EndsHeader g l c start ks form n u
        → ((fs : List Frame) → Match c fs ks → Least f (sized (under g l) (spot_at (length u) start c) fs form n)) → Stopped u f
    header_stops ks form n _ f (by_length u o) h = number_stops ks (Length form) n u f o (λ fs i. h fs (length_match ks form fs i))
    header_stops ks form n _ f (by_descriptor u b o t i) h =
        let d = open_run g l c start ks u o in
        let r = h d.fs d.match in
        let k = length-append u (b ∷ []) in
        let j : length u + 1 ≡ length (u ++ b ∷ []) = omega arith in
        stops_with d.fs Ready u b r.0 f (subst (λ p. Holds d.fs p u) (ready ks t) (leads_holds ks u d))
        (ap (on_descriptor (under g l) (spot_at (length u + 1) start c) d.fs) i ∙ (ap (λ x. sized (under g l) (spot_at x start c) d.fs form n) j ∙ r.1)) r.2
