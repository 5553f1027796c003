-- Theories that agree, tellings that agree, and what calls keep, one after another. Assumes nothing.
use Rattle.std.proofs.Common.{sym, refl, ◌∙◌}
use Rattle.logic.specs.Theories.{Theory, Same}
use Rattle.logic.specs.Tellings.{Telling, SameTelling}
use Rattle.logic.specs.Answers.{Kept}

pub same_refl : (t : Theory) → Same t t
same_refl t = record { has = λ e. refl; own = λ w. (λ x. x, λ x. x); holds = λ w e. (λ x. x, λ x. x) }

pub same_sym : {t u : Theory} → Same t u → Same u t
same_sym s =
    record {
      has = λ e. sym (s.has e);
      own = λ w. ((s.own w).1, (s.own w).0);
      holds = λ w e. ((s.holds w e).1, (s.holds w e).0);
    }

pub same_trans : {t u v : Theory} → Same t u → Same u v → Same t v
same_trans s r =
    record {
      has = λ e. s.has e ∙ r.has e;
      own = λ w. (λ x. (r.own w).0 ((s.own w).0 x), λ x. (s.own w).1 ((r.own w).1 x));
      holds = λ w e. (λ x. (r.holds w e).0 ((s.holds w e).0 x), λ x. (s.holds w e).1 ((r.holds w e).1 x));
    }

pub telling_refl : (t : Telling) → SameTelling t t
telling_refl t = record { place = λ n. refl; value = λ w n. refl; answer = λ es n a. (λ x. x, λ x. x) }

pub telling_trans : {t u v : Telling} → SameTelling t u → SameTelling u v → SameTelling t v
telling_trans s r =
    record {
      place = λ n. s.place n ∙ r.place n;
      value = λ w n. s.value w n ∙ r.value w n;
      answer = λ es n a. (λ x. (r.answer es n a).0 ((s.answer es n a).0 x), λ x. (s.answer es n a).1 ((r.answer es n a).1 x));
    }

pub kept_refl : (t : Theory) (p : Telling) (A : Type 0) → A → Kept t t p p A
kept_refl t p A good = record { lawful = good; theory = same_refl t; telling = telling_refl p }

pub kept_trans : {t u v : Theory} {p q r : Telling} {A B : Type 0} → Kept t u p q A → Kept u v q r B → Kept t v p r B
kept_trans x y =
    record {
      lawful = y.lawful;
      theory = same_trans y.theory x.theory;
      telling = telling_trans y.telling x.telling;
    }
