-- What an annotation, a name, an open and a close do to a reader that holds no values.
use Rattle.std.proofs.Common.{◌≡◌, List, [], ◌∷◌, ◌++◌, reverse, length, true, false, Option, Some, None, Result, Ok, refl, ap, sym, subst, ◌∙◌, arith}
use Rattle.std.specs.Prelude.{◌<◌, IsSome}
use Rattle.std.specs.Option.{option_to_list}
use Rattle.std.proofs.lemmas.List.{reverse-append}
use Rattle.ion_text.specs.Names.{AreAround, AreOpen, Bracket, Does, DoesAlone, Enters, Event, Frame, Goes, Hears, Holds, ListOrSexp, MayClose, Reason, Setting, Spot, Stage, Symbols, TableFilter, Tells, TextWalk, Turned, Value, WasTold, WentOn, annotated, annotation, at, behind_comma, bracket_of, brackets_of, calm, closed, closes_in, ended, events_of, first_now, goes, has_notes, heard, is_same, name, named, on_comma, open_brackets, opened, opens, told}
use Rattle.ion_model.specs.declared.value.Payload.TheVariants as payloads
use Rattle.ion_visiting.specs.Events.{closes}
use Rattle.ion_text.specs.walk.Holds.{told_in}
use Rattle.ion_text.proofs.Ended.{staged}
use Rattle.ion_text.proofs.Holding.{fields_told, list_told, name_told, note_told, open_told, sexp_told}
use Rattle.ion_text.proofs.Taking.{does_behind}

-- 1. An open.

bracket_opened : (b : Bracket) (ss : Symbols) → bracket_of (opened b ss) ≡ b
bracket_opened Bracket.List ss = refl
bracket_opened _ ss = refl

opened_there : (b : Bracket) (fs : List Frame) (ss : Symbols) → AreAround fs → AreOpen (opened b ss ∷ fs) [] (calm (first_now b))
opened_there Bracket.List fs ss h = h
opened_there _ fs ss h = h

-- a bracket is pushed behind those that were open
pushed : (items : List Bracket) (b : Bracket) (fs : List Frame) (ss : Symbols) → reverse items ≡ brackets_of fs
    → reverse (items ++ b ∷ []) ≡ brackets_of (opened b ss ∷ fs)
pushed items b fs ss e =
    reverse-append items (b ∷ []) ∙ (ap (λ bs. b ∷ bs) e ∙ ap (λ x. x ∷ brackets_of fs) (sym (bracket_opened b ss)))

pub entered : {V : Type 0} (leads : V → Event → V → Type 0) (r new : TextWalk) (b : Bracket) (a z : V) → r.stage ≡ Stage.Ready
    → new.frames.items ≡ r.frames.items ++ b ∷ [] → new.noted ≡ false → new.stage ≡ first_now b → new.start ≡ r.start → new.context ≡ r.context
    → Tells leads (opens b) r.filter new.filter a z
    → (fs : List Frame) (ss : Symbols) → Holds r fs ss → Enters leads b r new fs ss a z
entered leads r new b a z ready items noted stage start context tells fs ss h = record {
  went = record {
    holds = (
      record {
        frames = ap (λ (w : List Bracket). reverse w) items ∙ pushed r.frames.items b fs ss h.0.frames;
        notes = noted;
        open_there = subst (λ n. AreOpen (opened b ss ∷ fs) [] (calm n)) (sym stage)
            (opened_there b fs ss (subst (λ n. AreOpen fs ss (calm n)) ready h.0.open_there));
      },
      subst (λ es. WasTold new.filter es) (open_told b fs ss) (tells (told fs ss) h.1).0,
    );
    hears = subst (λ es. Hears leads (heard (told fs ss)) (heard es) a z) (open_told b fs ss) (tells (told fs ss) h.1).1;
  };
  reading =
      ap (λ s. at s r.context (opened b ss ∷ fs) [] (first_now b)) (sym start)
      ∙ (ap (λ c. at new.start c (opened b ss ∷ fs) [] (first_now b)) (sym context)
      ∙ ap (λ n. at new.start new.context (opened b ss ∷ fs) [] n) (sym stage));
}

-- 2. An annotation.

noted_some : (ss : Symbols) (s : _) → true ≡ has_notes (ss ++ s ∷ [])
noted_some [] s = refl
noted_some (t ∷ ss) s = refl

pub notes_went : {V : Type 0} (leads : V → Event → V → Type 0) (r new : TextWalk) (s : _) (a z : V) → r.stage ≡ Stage.Ready
    → new.frames ≡ r.frames → new.noted ≡ true → new.stage ≡ r.stage
    → ((es : List Event) → WasTold r.filter es
    → WasTold new.filter (es ++ annotation s ∷ []) × Hears leads (heard es) (heard (es ++ annotation s ∷ [])) a z)
    → (fs : List Frame) (ss : Symbols) → Holds r fs ss → WentOn leads (told fs ss) new fs (ss ++ s ∷ []) a z
notes_went leads r new s a z ready same noted stage tells fs ss h =
    let i = tells (told fs ss) h.1 in
    let e = note_told fs ss s in
    record {
      holds = (
        record {
          frames = ap (λ f. reverse f.items) same ∙ h.0.frames;
          notes = noted ∙ noted_some ss s;
          open_there = subst (λ n. AreOpen fs (ss ++ s ∷ []) (calm n)) (sym (stage ∙ ready)) (subst (λ n. AreOpen fs ss (calm n)) ready h.0.open_there);
        },
        subst (λ es. WasTold new.filter es) e i.0,
      );
      hears = subst (λ es. Hears leads (heard (told fs ss)) (heard es) a z) e i.1;
    }

-- 3. The name of a field.

pub names_does : {V : Type 0} (leads : V → Event → V → Type 0) (r new : TextWalk) (s : _) (a z : V) → r.stage ≡ Stage.Name
    → new.frames ≡ r.frames → new.noted ≡ r.noted → new.stage ≡ Stage.Ready → new.start ≡ r.start → new.context ≡ r.context
    → ((es : List Event) → WasTold r.filter es → WasTold new.filter (es ++ name s ∷ []) × Hears leads (heard es) (heard (es ++ name s ∷ [])) a z)
    → (fs : List Frame) → Holds r fs [] → Does leads (told fs []) (named r.start r.context fs s) (Ok Goes) new a z
names_does leads r new s a z stage same noted now start context tells fs h = by fs h (subst (λ n. AreOpen fs [] (calm n)) stage h.0.open_there)
  where
    by : (fs : List Frame) → Holds r fs [] → AreOpen fs [] Stage.Name → Does leads (told fs []) (named r.start r.context fs s) (Ok Goes) new a z
    by (Frame.Fields ss ms ∷ fs) h o =
        let i = tells (told (Frame.Fields ss ms ∷ fs) []) h.1 in
        let e = name_told fs ss ms s in (
          Frame.Named ss ms s ∷ fs,
          [],
          ap (λ x. goes (at x r.context (Frame.Named ss ms s ∷ fs) [] Stage.Ready)) (sym start)
              ∙ (ap (λ x. goes (at new.start x (Frame.Named ss ms s ∷ fs) [] Stage.Ready)) (sym context)
              ∙ ap (λ x. goes (at new.start new.context (Frame.Named ss ms s ∷ fs) [] x)) (sym now)),
          record {
            holds = (
              record {
                frames = ap (λ f. reverse f.items) same ∙ h.0.frames;
                notes = noted ∙ h.0.notes;
                open_there = subst (λ n. AreOpen (Frame.Named ss ms s ∷ fs) [] (calm n)) (sym now) o;
              },
              subst (λ es. WasTold new.filter es) e i.0,
            );
            hears = subst (λ es. Hears leads (heard (told (Frame.Fields ss ms ∷ fs) [])) (heard es) a z) e i.1;
          },
        )
    by _ h o = absurd o

-- 4. A close.

-- where a close may come, such containers are open around the one that it closes
around_open : (f : Frame) (fs : List Frame) (now : Stage) → AreOpen (f ∷ fs) [] now → AreAround fs
around_open (Frame.Items listing ss vs) fs Stage.Ready o = o
around_open (Frame.Named ss ms s) fs Stage.Ready o = o
around_open (Frame.Items ListOrSexp.List ss vs) fs Stage.After o = o
around_open (Frame.Fields ss ms) fs Stage.After o = o
around_open (Frame.Fields ss ms) fs Stage.Name o = o
around_open _ fs _ o = absurd o

-- a container of these brackets closes, where this may come next: the frames of the model are its frame and those around it
module _ {V : Type 0} (leads : V → Event → V → Type 0) (setting : Setting) (spot : Spot) (r : TextWalk) (b : Bracket) (outer : List Bracket)
    (g : TableFilter) (result : Result Turned Reason) (new : TextWalk) (a z : V)
    (may : MayClose b (calm r.stage)) (open_there : open_brackets r ≡ b ∷ outer)
    (tells : (es : List Event) → WasTold r.filter es → WasTold g (es ++ closes b ∷ []) × Hears leads (heard es) (heard (es ++ closes b ∷ [])) a z)
    (ends : (fs : List Frame) (v : Value) → outer ≡ brackets_of fs → AreAround fs → WasTold g (told_in fs ++ events_of v)
    → DoesAlone (told_in fs ++ events_of v) (ended setting spot fs v) result new) where
  whole : (b' : Bracket) → b' ≡ b → (fs before : List Frame) (v : Value) → WasTold r.filter (told before []) → outer ≡ brackets_of fs → AreAround fs
      → told before [] ++ closes b' ∷ [] ≡ told_in fs ++ events_of v → Does leads (told before []) (ended setting spot fs v) result new a z
  whole b' is fs before v was same around e =
      let i = tells (told before []) was in
      let there = subst (λ x. told before [] ++ closes x ∷ [] ≡ told_in fs ++ events_of v) is e in
      does_behind leads (told before []) (told_in fs ++ events_of v) (ended setting spot fs v) result new a z
      (subst (λ es. Hears leads (heard (told before [])) (heard es) a z) there i.1) (ends fs v same around (subst (λ es. WasTold g es) there i.0))

  by : (b' : Bracket) → b' ≡ b → (f : Frame) (fs : List Frame) (now : Stage) → b ≡ bracket_of f → outer ≡ brackets_of fs → MayClose b' now
      → AreOpen (f ∷ fs) [] now → WasTold r.filter (told (f ∷ fs) [])
      → Does leads (told (f ∷ fs) []) (closed b' setting spot (f ∷ fs)) result new a z
  by Bracket.List e (Frame.Items ListOrSexp.List ss vs) fs now i same m o was =
      whole Bracket.List e fs (Frame.Items ListOrSexp.List ss vs ∷ fs) (annotated ss (payloads.List vs)) was same
      (around_open (Frame.Items ListOrSexp.List ss vs) fs now o) (list_told fs ss vs)
  by Bracket.Sexp e (Frame.Items ListOrSexp.Sexp ss vs) fs now i same m o was =
      whole Bracket.Sexp e fs (Frame.Items ListOrSexp.Sexp ss vs ∷ fs) (annotated ss (payloads.Sexp vs)) was same
      (around_open (Frame.Items ListOrSexp.Sexp ss vs) fs now o) (sexp_told fs ss vs)
  by Bracket.Fields e (Frame.Fields ss ms) fs now i same m o was =
      whole Bracket.Fields e fs (Frame.Fields ss ms ∷ fs) (annotated ss (payloads.Fields ms)) was same
      (around_open (Frame.Fields ss ms) fs now o) (fields_told fs ss ms)
  by Bracket.Fields e (Frame.Named ss ms s) fs now i same m o was = absurd (nowhere now m o)
    where
      nowhere : (now : Stage) → MayClose Bracket.Fields now → AreOpen (Frame.Named ss ms s ∷ fs) [] now → ⊥
      nowhere Stage.Ready m o = m
      nowhere _ m o = o
  by Bracket.Fields e (Frame.Items ListOrSexp.List ss vs) fs now i same m o was = absurd cc
  by _ e _ fs now i same m o was = absurd cc

  pub closes_does : (fs : List Frame) → Holds r fs [] → Does leads (told fs []) (closed b setting spot fs) result new a z
  closes_does [] h = let none = open_there in let e = h.0.frames in absurd cc
  closes_does (f ∷ fs) h =
      let same : b ∷ outer ≡ brackets_of (f ∷ fs) = sym open_there ∙ h.0.frames in by b refl f fs (calm r.stage) (cc) (cc) may h.0.open_there h.1

same_true : (b x : Bracket) → is_same b x ≡ true → b ≡ x
same_true Bracket.List Bracket.List h = refl
same_true Bracket.Sexp Bracket.Sexp h = refl
same_true Bracket.Fields Bracket.Fields h = refl
same_true _ _ h = absurd cc

-- the innermost container that closes was the last in memory
pub popped : (b : Bracket) (items rest : List Bracket) (o : Option Bracket) → items ≡ rest ++ option_to_list o → (0 < length items → IsSome o)
    → closes_in b (reverse items) ≡ true → reverse items ≡ b ∷ reverse rest
popped b items rest (Some x) e some h =
    let whole : reverse items ≡ x ∷ reverse rest = ap (λ (w : List Bracket). reverse w) e ∙ reverse-append rest (x ∷ []) in
    whole ∙ ap (λ y. y ∷ reverse rest) (sym (same_true b x (ap (closes_in b) (sym whole) ∙ h)))
popped b [] rest None e some h = absurd cc
popped b (y ∷ items) rest None e some h = let s = some (omega arith) in absurd cc

-- 5. A comma.

pub comma_goes : (r new : TextWalk) (s : Stage) → behind_comma (open_brackets r) ≡ Some s → new ≡ staged r s → r.stage ≡ Stage.After
    → (fs : List Frame) → Holds r fs [] → DoesAlone (told fs []) (on_comma r.start r.context fs) (Ok Goes) new
comma_goes r new s behind is stage fs h =
    subst (λ n. DoesAlone (told fs []) (on_comma r.start r.context fs) (Ok Goes) n) (sym is)
    (by fs h (subst (λ n. AreOpen fs [] (calm n)) stage h.0.open_there) (ap behind_comma (sym h.0.frames) ∙ behind))
  where
    by : (fs : List Frame) → Holds r fs [] → AreOpen fs [] Stage.After → behind_comma (brackets_of fs) ≡ Some s
        → DoesAlone (told fs []) (on_comma r.start r.context fs) (Ok Goes) (staged r s)
    by (Frame.Items ListOrSexp.List ss vs ∷ fs) h o e =
        let now : Stage.Ready ≡ s = cc in
        subst (λ n. DoesAlone (told (Frame.Items ListOrSexp.List ss vs ∷ fs) []) (on_comma r.start r.context (Frame.Items ListOrSexp.List ss vs ∷ fs))
        (Ok Goes) (staged r n)) now
        (Frame.Items ListOrSexp.List ss vs ∷ fs, [], refl, (record { frames = h.0.frames; notes = h.0.notes; open_there = o }, h.1), refl)
    by (Frame.Fields ss ms ∷ fs) h o e =
        let now : Stage.Name ≡ s = cc in
        subst (λ n. DoesAlone (told (Frame.Fields ss ms ∷ fs) []) (on_comma r.start r.context (Frame.Fields ss ms ∷ fs)) (Ok Goes) (staged r n)) now
        (Frame.Fields ss ms ∷ fs, [], refl, (record { frames = h.0.frames; notes = h.0.notes; open_there = o }, h.1), refl)
    by _ h o e = absurd o
