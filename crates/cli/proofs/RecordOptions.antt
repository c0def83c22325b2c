-- The options of a recording, one after the other.
use Rattle.std.proofs.Common.{◌≡◌, ◌++◌, ℕ, Bool, true, false, List, [], ◌∷◌, Option, None, Some, codes}
use Rattle.std.proofs.Common.{append_assoc, drop, get_or, length, refl, sym, ap, ◌∙◌, subst, inl, inr, arith}
use Rattle.std.specs.Prelude.{MatchOption, if◌then◌else◌}
use Rattle.std.specs.Str.Parse.{digits_value, without_leading_plus}
use Rattle.std.proofs.lemmas.List.{append-nil}
use Rattle.clap.specs.Words.{Text}
use Rattle.two_hosts.specs.declared.plan.Plan.{Plan}
use Rattle.case_forms.specs.Versions.{is_half, says_sender}
use Rattle.case_forms.specs.declared.version.Version.{Version}
use Rattle.case_forms.specs.declared.version.Version.TheVariants as versions
use Rattle.cli.specs.declared.record_words.Setting.{Setting}
use Rattle.cli.specs.declared.record_words.Setting.TheVariants.{Rounds, Lose, Format}
use Rattle.cli.specs.declared.record_words.Given.TheVariants.{Never, Once}
use Rattle.cli.specs.declared.record_words.Settings.{Settings}
use Rattle.cli.specs.FileWords.{BeginsWith}
use Rattle.cli.specs.Options.{IsNumberIn}
use Rattle.cli.specs.RecordReading.{AsksPlan, GivesVersion, given, settings_of, with_number, with_setting}
use Rattle.cli.specs.RecordWords.{AsksRecord, IsVersion, Spells, TellEach, TellsNumber, dashed, equals, least, most, numbers_of, same}
use Rattle.cli.proofs.Numbers.{not_dashed}
use Rattle.cli.proofs.OptionWords.{begins_once, begins_third}

-- `MatchOption` of `None`, and of `Some`
pub unmatched : {A : Type 0} (N : Type 0) (S : A → Type 0) (o : Option A) → MatchOption o N S → ((x : A) → o ≡ Some x → ⊥) → N
unmatched N S None is other = is
unmatched N S (Some x) is other = absurd (other x refl)

pub matched : {A : Type 0} (N : Type 0) (S : A → Type 0) (o : Option A) (x : A) → MatchOption o N S → o ≡ Some x → S x
matched N S None x is e = cc
matched N S (Some y) x is e = let same : y ≡ x = cc in subst S same is

-- ---- the option that comes first

pub spells : (s : Setting) (text : Text) (n : ℕ) → IsNumberIn (least s) (most s) text n → Spells s text n
spells s text n is = record { numeral = is.numeral; number = is.number; low = is.low; high = is.high }

pub is_spelled : (s : Setting) (text : Text) (n : ℕ) → Spells s text n → IsNumberIn (least s) (most s) text n
is_spelled s text n is = record { numeral = is.numeral; number = is.number; low = is.low; high = is.high }

joined_word : (s : Setting) (text : Text) → dashed s ++ codes "=" ++ text ≡ equals s ++ text
joined_word Rounds text = refl
joined_word Lose text = refl
joined_word Format text = refl

-- the option, its text and its number come first
record Begins (s : Setting) (n : ℕ) (rest words : List Text) : Type 0 where
  text : Text
  begins : BeginsWith (dashed s) text rest words
  is : Spells s text n

first_of : (s : Setting) (n : ℕ) (first rest words : List Text) → words ≡ first ++ rest → TellsNumber s first n → Begins s n rest words
first_of s n first rest words whole (text, inl form, is) = record {
  text = text;
  begins = inl (whole ∙ ap (λ (ws : List Text). ws ++ rest) form, not_dashed text is.numeral);
  is = is;
}
first_of s n first rest words whole (text, inr form, is) = record {
  text = text;
  begins = inr (whole ∙ ap (λ (ws : List Text). ws ++ rest) form ∙ ap (λ (w : Text). w ∷ rest) (sym (joined_word s text)));
  is = is;
}

tells_first : (s : Setting) (n : ℕ) (options : List (Setting × ℕ)) (text : Text) (rest words : List Text)
    → BeginsWith (dashed s) text rest words → Spells s text n → TellEach options rest → TellEach ((s, n) ∷ options) words
tells_first s n options text rest words (inl (e, plain)) is each = (dashed s ∷ text ∷ [], rest, e, (text, inl refl, is), each)
tells_first s n options text rest words (inr e) is each =
    ((equals s ++ text) ∷ [], rest, e ∙ ap (λ (w : Text). w ∷ rest) (joined_word s text), (text, inr refl, is), each)

-- the third byte of an option's word tells which option it is
same_setting : (s t : Setting) → get_or (dashed s) 2 0 ≡ get_or (dashed t) 2 0 → s ≡ t
same_setting Rounds Rounds e = refl
same_setting Rounds Lose e = absurd (omega (e, arith))
same_setting Rounds Format e = absurd (omega (e, arith))
same_setting Lose Rounds e = absurd (omega (e, arith))
same_setting Lose Lose e = refl
same_setting Lose Format e = absurd (omega (e, arith))
same_setting Format Rounds e = absurd (omega (e, arith))
same_setting Format Lose e = absurd (omega (e, arith))
same_setting Format Format e = refl

third_joined : (s : Setting) (text : Text) → get_or (dashed s ++ codes "=" ++ text) 2 0 ≡ get_or (dashed s) 2 0
third_joined Rounds text = refl
third_joined Lose text = refl
third_joined Format text = refl

-- words begin with only one option, with one text and one rest
record AreSame (s t : Setting) (one two : Text) (front back : List Text) : Type 0 where
  setting : s ≡ t
  text : one ≡ two
  rest : front ≡ back

alike : (s t : Setting) (one two : Text) (front back words : List Text) → BeginsWith (dashed s) one front words → BeginsWith (dashed t) two back words
    → AreSame s t one two front back
alike s t one two front back words a b =
    let setting : s ≡ t =
    same_setting s t (sym (begins_third (dashed s) one front words (third_joined s one) a) ∙ begins_third (dashed t) two back words (third_joined t two) b) in
    let same = begins_once (dashed t) one two front back words (subst (λ (u : Setting). BeginsWith (dashed u) one front words) setting a) b in
    record { setting = setting; text = same.0; rest = same.1 }

same_number : (s t : Setting) (one two : Text) (m n : ℕ) → one ≡ two → Spells s one m → Spells t two n → m ≡ n
same_number s t one two m n e a b = a.number ∙ ap (λ (text : Text). digits_value 10 (without_leading_plus text)) e ∙ sym b.number

-- the options of words that begin with this one
pub record BeginWith (s : Setting) (text : Text) (rest : List Text) (options : List (Setting × ℕ)) : Type 0 where
  pub number : ℕ
  pub more : List (Setting × ℕ)
  pub is : Spells s text number
  pub whole : options ≡ (s, number) ∷ more
  pub each : TellEach more rest

pub begin_with : (s : Setting) (text : Text) (rest words : List Text) (options : List (Setting × ℕ)) → BeginsWith (dashed s) text rest words
    → TellEach options words → BeginWith s text rest options
begin_with s text rest words [] (inl (e, plain)) none = let bad = sym e ∙ none in cc
begin_with s text rest words [] (inr e) none = let bad = sym e ∙ none in cc
begin_with s text rest words ((t, n) ∷ more) begins (first, back, whole, tells, each) =
    let b = first_of t n first back words whole tells in
    let same = alike t s b.text text back rest words b.begins begins in
    record {
      number = n;
      more = more;
      is = subst (λ (u : Setting). Spells u text n) same.setting (subst (λ (xs : Text). Spells t xs n) same.text b.is);
      whole = ap (λ (u : Setting). (u, n) ∷ more) same.setting;
      each = subst (λ (ws : List Text). TellEach more ws) same.rest each;
    }

-- words are one list of options
pub told_alike : (options others : List (Setting × ℕ)) (words : List Text) → TellEach options words → TellEach others words → options ≡ others
told_alike [] [] words none again = refl
told_alike ((s, m) ∷ options) others words (first, rest, whole, tells, each) again =
    let b = first_of s m first rest words whole tells in
    let o = begin_with s b.text rest words others b.begins again in
    ap (λ (n : ℕ). (s, n) ∷ options) (same_number s s b.text b.text m o.number refl b.is o.is)
    ∙ ap (λ (os : List (Setting × ℕ)). (s, o.number) ∷ os) (told_alike options o.more rest each o.each) ∙ sym o.whole
told_alike [] ((t, n) ∷ others) words none (first, rest, whole, tells, each) =
    let b = first_of t n first rest words whole tells in
    let bad = begin_with t b.text rest words [] b.begins none in cc (bad.whole)

-- ---- the options so far

-- these settings are those of the words before the rest
pub record AreSoFar (settings : Settings) (words rest : List Text) : Type 0 where
  pub options : List (Setting × ℕ)
  pub is : settings ≡ settings_of options
  pub on : (more : List (Setting × ℕ)) → TellEach more rest → TellEach (options ++ more) words
  pub only : (all : List (Setting × ℕ)) → TellEach all words → (more : List (Setting × ℕ)) × (all ≡ options ++ more) × TellEach more rest

pub so_far_start : (words : List Text) → AreSoFar (record { rounds = Never; lose = Never; format = Never }) words words
so_far_start words = record { options = []; is = refl; on = λ more each. each; only = λ all each. (all, refl, each) }

numbers_append : (s : Setting) (options more : List (Setting × ℕ)) → numbers_of s (options ++ more) ≡ numbers_of s options ++ numbers_of s more
numbers_append s [] more = refl
numbers_append s (option ∷ options) more = by_case (same s option.0) (numbers_of s (options ++ more)) (numbers_of s options) (numbers_append s options more)
  where
    by_case : (b : Bool) (all ns : List ℕ) → all ≡ ns ++ numbers_of s more
        → (if b then option.1 ∷ all else all) ≡ (if b then option.1 ∷ ns else ns) ++ numbers_of s more
    by_case true all ns e = ap (λ (is : List ℕ). option.1 ∷ is) e
    by_case false all ns e = e

given_more : (ns : List ℕ) (n : ℕ) → given (ns ++ n ∷ []) ≡ with_number n (given ns)
given_more [] n = refl
given_more (x ∷ []) n = refl
given_more (x ∷ y ∷ ns) n = refl

-- an option with its number is one more
given_own : (s : Setting) (options : List (Setting × ℕ)) (n : ℕ) → numbers_of s ((s, n) ∷ []) ≡ n ∷ []
    → given (numbers_of s (options ++ (s, n) ∷ [])) ≡ with_number n (given (numbers_of s options))
given_own s options n own =
    ap given (numbers_append s options ((s, n) ∷ []) ∙ ap (λ (ns : List ℕ). numbers_of s options ++ ns) own) ∙ given_more (numbers_of s options) n

given_other : (s t : Setting) (options : List (Setting × ℕ)) (n : ℕ) → numbers_of s ((t, n) ∷ []) ≡ []
    → given (numbers_of s (options ++ (t, n) ∷ [])) ≡ given (numbers_of s options)
given_other s t options n other =
    ap given (numbers_append s options ((t, n) ∷ []) ∙ ap (λ (ns : List ℕ). numbers_of s options ++ ns) other ∙ append-nil (numbers_of s options))

settings_more : (s : Setting) (n : ℕ) (options : List (Setting × ℕ)) → settings_of (options ++ (s, n) ∷ []) ≡ with_setting s n (settings_of options)
settings_more Rounds n options =
    rw (given_own Rounds options n refl, given_other Lose Rounds options n refl, given_other Format Rounds options n refl) refl
settings_more Lose n options =
    rw (given_other Rounds Lose options n refl, given_own Lose options n refl, given_other Format Lose options n refl) refl
settings_more Format n options =
    rw (given_other Rounds Format options n refl, given_other Lose Format options n refl, given_own Format options n refl) refl

-- one more option
pub so_far_more : (settings : Settings) (words rest behind : List Text) (s : Setting) (text : Text) (n : ℕ) → AreSoFar settings words rest
    → BeginsWith (dashed s) text behind rest → IsNumberIn (least s) (most s) text n → AreSoFar (with_setting s n settings) words behind
so_far_more settings words rest behind s text n so begins is = record {
  options = so.options ++ (s, n) ∷ [];
  is = ap (with_setting s n) so.is ∙ sym (settings_more s n so.options);
  on = λ more each.
      subst (λ (os : List (Setting × ℕ)). TellEach os words) (sym (append_assoc so.options ((s, n) ∷ []) more))
      (so.on ((s, n) ∷ more) (tells_first s n more text behind rest begins (spells s text n is) each));
  only = λ all each.
      let (more, whole, left) = so.only all each in
      let b = begin_with s text behind rest more begins left in
      let number = same_number s s text text b.number n refl b.is (spells s text n is) in (
        b.more,
        whole ∙ ap (λ (os : List (Setting × ℕ)). so.options ++ os) (b.whole ∙ ap (λ (k : ℕ). (s, k) ∷ b.more) number)
            ∙ sym (append_assoc so.options ((s, n) ∷ []) b.more),
        b.each,
      );
}

-- a word that is no option
pub none_first : (settings : Settings) (words rest : List Text) (all : List (Setting × ℕ)) → AreSoFar settings words rest → (rest ≡ [] → ⊥)
    → ((s : Setting) (text : Text) (behind : List Text) → ¬ BeginsWith (dashed s) text behind rest) → TellEach all words → ⊥
none_first settings words rest all so some none each = let (more, whole, left) = so.only all each in by_case more left
  where
    by_case : (more : List (Setting × ℕ)) → TellEach more rest → ⊥
    by_case [] empty = some empty
    by_case ((s, n) ∷ more) (first, behind, whole, tells, left) =
        let b = first_of s n first behind rest whole tells in none s b.text behind b.begins

-- an option with a text that spells no number
pub none_spelled : (settings : Settings) (words rest behind : List Text) (s : Setting) (text : Text) (all : List (Setting × ℕ))
    → AreSoFar settings words rest → BeginsWith (dashed s) text behind rest → ((n : ℕ) → ¬ IsNumberIn (least s) (most s) text n)
    → TellEach all words → ⊥
none_spelled settings words rest behind s text all so begins none each =
    let (more, whole, left) = so.only all each in
    let b = begin_with s text behind rest more begins left in
    none b.number (is_spelled s text b.number b.is)

-- the end of the words
pub all_told : (settings : Settings) (words rest : List Text) → AreSoFar settings words rest → rest ≡ []
    → (options : List (Setting × ℕ)) × TellEach options words × (settings ≡ settings_of options)
all_told settings words rest so end =
    (so.options, subst (λ (os : List (Setting × ℕ)). TellEach os words) (append-nil so.options) (so.on [] end), so.is)

-- ---- the plan

once : (ns : List ℕ) (n : ℕ) → given ns ≡ Once n → ns ≡ n ∷ []
once [] n e = cc
once (x ∷ []) n e = let same : x ≡ n = cc in ap (λ (i : ℕ). i ∷ []) same
once (x ∷ y ∷ ns) n e = cc

never : (ns : List ℕ) → given ns ≡ Never → ns ≡ []
never [] e = refl
never (x ∷ []) e = cc
never (x ∷ y ∷ ns) e = cc

version_is : (ns : List ℕ) (v : Version) → GivesVersion (given ns) v → IsVersion ns v
version_is ns versions.One (inl e) = inl (never ns e)
version_is ns versions.One (inr e) = inr (once ns 1 e)
version_is ns versions.Two e = once ns 2 e
version_is ns versions.Three e = e
version_is ns versions.Four e = e
version_is ns versions.FourHalf e = e
version_is ns versions.Five e = e
version_is ns versions.FiveHalf e = e
version_is ns versions.Six e = e
version_is ns versions.SixHalf e = e

gives_version : (ns : List ℕ) (v : Version) → IsVersion ns v → GivesVersion (given ns) v
gives_version ns versions.One (inl e) = inl (ap given e)
gives_version ns versions.One (inr e) = inr (ap given e)
gives_version ns versions.Two e = ap given e
gives_version ns versions.Three e = e
gives_version ns versions.Four e = e
gives_version ns versions.FourHalf e = e
gives_version ns versions.Five e = e
gives_version ns versions.FiveHalf e = e
gives_version ns versions.Six e = e
gives_version ns versions.SixHalf e = e

-- the words after `record` request the plan that their numbers request
pub asked_plan : (words : List Text) (options : List (Setting × ℕ)) (settings : Settings) (asked : Option Plan) → TellEach options words
    → settings ≡ settings_of options → MatchOption asked ((plan : Plan) → ¬ AsksPlan settings plan) (AsksPlan settings)
    → MatchOption asked ((plan : Plan) → ¬ AsksRecord (codes "record" ∷ words) plan) (AsksRecord (codes "record" ∷ words))
asked_plan words options settings (Some plan) each is asks = record {
  behind = words;
  words_are = refl;
  options = options;
  told = each;
  rounds = once (numbers_of Rounds options) plan.rounds (ap (λ (s : Settings). s.rounds) (sym is) ∙ asks.rounds);
  lose = once (numbers_of Lose options) plan.lose (ap (λ (s : Settings). s.lose) (sym is) ∙ asks.lose);
  not_each = asks.not_each;
  version = version_is (numbers_of Format options) plan.version (subst (λ (s : Settings). GivesVersion s.format plan.version) is asks.version);
}
asked_plan words options settings None each is none = λ plan asks. none plan (requested plan asks)
  where
    requested : (plan : Plan) → AsksRecord (codes "record" ∷ words) plan → AsksPlan settings plan
    requested plan asks =
        let behind : asks.behind ≡ words = ap (λ (ws : List Text). drop 1 ws) (sym asks.words_are) in
        let same : asks.options ≡ options =
        told_alike asks.options options words (subst (λ (ws : List Text). TellEach asks.options ws) behind asks.told) each in
        let settings_are : settings_of asks.options ≡ settings = ap settings_of same ∙ sym is in
        record {
          rounds = ap (λ (s : Settings). s.rounds) (sym settings_are) ∙ ap given asks.rounds;
          lose = ap (λ (s : Settings). s.lose) (sym settings_are) ∙ ap given asks.lose;
          not_each = asks.not_each;
          version =
              subst (λ (s : Settings). GivesVersion s.format plan.version) settings_are
              (gives_version (numbers_of Format asks.options) plan.version asks.version);
        }

-- words that are no options request none
pub none_asked : (words : List Text) → ((options : List (Setting × ℕ)) → ¬ TellEach options words) → (plan : Plan) → ¬ AsksRecord (codes "record" ∷ words) plan
none_asked words none plan asks =
    let behind : asks.behind ≡ words = ap (λ (ws : List Text). drop 1 ws) (sym asks.words_are) in
    none asks.options (subst (λ (ws : List Text). TellEach asks.options ws) behind asks.told)

-- ---- words request one plan

one_number : (ns : List ℕ) (m n : ℕ) → ns ≡ m ∷ [] → ns ≡ n ∷ [] → m ≡ n
one_number ns m n a b = ap (λ (is : List ℕ). get_or is 0 0) (sym a ∙ b)

none_and_one : (ns : List ℕ) (n : ℕ) → ns ≡ [] → ns ≡ n ∷ [] → ⊥
none_and_one ns n none one = let bad : 0 ≡ 1 = ap (λ (is : List ℕ). length is) (sym none ∙ one) in absurd (omega (bad, arith))

same_version : (ns : List ℕ) (v w : Version) → IsVersion ns v → IsVersion ns w → v ≡ w
same_version ns versions.One versions.One a b = refl
same_version ns versions.One versions.Two (inl a) b = absurd (none_and_one ns 2 a b)
same_version ns versions.One versions.Two (inr a) b = let bad = one_number ns 1 2 a b in absurd (omega (bad, arith))
same_version ns versions.One versions.Three a b = absurd b
same_version ns versions.One versions.Four a b = absurd b
same_version ns versions.One versions.FourHalf a b = absurd b
same_version ns versions.One versions.Five a b = absurd b
same_version ns versions.One versions.FiveHalf a b = absurd b
same_version ns versions.One versions.Six a b = absurd b
same_version ns versions.One versions.SixHalf a b = absurd b
same_version ns versions.Two versions.One a (inl b) = absurd (none_and_one ns 2 b a)
same_version ns versions.Two versions.One a (inr b) = let bad = one_number ns 1 2 b a in absurd (omega (bad, arith))
same_version ns versions.Two versions.Two a b = refl
same_version ns versions.Two versions.Three a b = absurd b
same_version ns versions.Two versions.Four a b = absurd b
same_version ns versions.Two versions.FourHalf a b = absurd b
same_version ns versions.Two versions.Five a b = absurd b
same_version ns versions.Two versions.FiveHalf a b = absurd b
same_version ns versions.Two versions.Six a b = absurd b
same_version ns versions.Two versions.SixHalf a b = absurd b
same_version ns versions.Three w a b = absurd a
same_version ns versions.Four w a b = absurd a
same_version ns versions.FourHalf w a b = absurd a
same_version ns versions.Five w a b = absurd a
same_version ns versions.FiveHalf w a b = absurd a
same_version ns versions.Six w a b = absurd a
same_version ns versions.SixHalf w a b = absurd a

pub one_plan : (words : List Text) (p q : Plan) → AsksRecord words p → AsksRecord words q → p ≡ q
one_plan words p q a b =
    let behind : a.behind ≡ b.behind = ap (λ (ws : List Text). drop 1 ws) (sym a.words_are ∙ b.words_are) in
    let same : a.options ≡ b.options =
    told_alike a.options b.options b.behind (subst (λ (ws : List Text). TellEach a.options ws) behind a.told) b.told in
    let rounds = one_number (numbers_of Rounds b.options) p.rounds q.rounds (ap (numbers_of Rounds) (sym same) ∙ a.rounds) b.rounds in
    let lose = one_number (numbers_of Lose b.options) p.lose q.lose (ap (numbers_of Lose) (sym same) ∙ a.lose) b.lose in
    let version =
    same_version (numbers_of Format b.options) p.version q.version
    (subst (λ (os : List (Setting × ℕ)). IsVersion (numbers_of Format os) p.version) same a.version) b.version in
    ap (λ (n : ℕ). record p { rounds = n }) rounds ∙ ap (λ (n : ℕ). record q { lose = n; version = p.version }) lose
    ∙ ap (λ (v : Version). record q { version = v }) version

pub asks_whole : (words : List Text) (plan : Plan) → AsksRecord words plan → is_half plan.version ≡ false
asks_whole words plan asks = whole (numbers_of Format asks.options) plan.version asks.version
  where
    whole : (ns : List ℕ) (v : Version) → IsVersion ns v → is_half v ≡ false
    whole ns versions.One is = refl
    whole ns versions.Two is = refl
    whole ns versions.Three is = absurd is
    whole ns versions.Four is = absurd is
    whole ns versions.FourHalf is = absurd is
    whole ns versions.Five is = absurd is
    whole ns versions.FiveHalf is = absurd is
    whole ns versions.Six is = absurd is
    whole ns versions.SixHalf is = absurd is

pub asks_unjudged : (words : List Text) (plan : Plan) → AsksRecord words plan → says_sender plan.version ≡ false
asks_unjudged words plan asks = unjudged (numbers_of Format asks.options) plan.version asks.version
  where
    unjudged : (ns : List ℕ) (v : Version) → IsVersion ns v → says_sender v ≡ false
    unjudged ns versions.One is = refl
    unjudged ns versions.Two is = refl
    unjudged ns versions.Three is = absurd is
    unjudged ns versions.Four is = absurd is
    unjudged ns versions.FourHalf is = absurd is
    unjudged ns versions.Five is = absurd is
    unjudged ns versions.FiveHalf is = absurd is
    unjudged ns versions.Six is = absurd is
    unjudged ns versions.SixHalf is = absurd is
