use Rattle.std.proofs.Common.{◌≡◌, ◌<◌, ◌∙◌, length, set, Some, sym, ap, subst, arith}
use Rattle.std.specs.Prelude.{slice_get}
use Rattle.std.proofs.lemmas.List.{length-set}
use Rattle.std.proofs.lemmas.Option.{slice_get-get_or}
use Rattle.mq_base.proofs.lemmas.Lists.{get-set_other, get-set_same, some_inj}
use Rattle.mq_kept.specs.Formers.{AreNodes, FitsIn, lists_before}
use Rattle.mq_kept.specs.declared.former.Former.{Former}
use Rattle.mq_kept.specs.declared.former.Former.TheVariants.{Same}
use Rattle.mq_kept.proofs.Formers.{all-back, comes-put, fits-put, put-count, put-twice, same-more}
use Rattle.mq_kept.proofs.former.come_back.Goals as goal

pub put_back-requires : goal.put_back-requires
put_back-requires c =
    let was = c.loop-at.invariant in
    let formers = c.loop-at.formers in
    let at = c.loop-at.at in
    let size = was.long in
    let inside : at < length formers = omega arith in
    was.fit at c.put_at-now.result c.replace-former.result c.put_at-now.ensures.had (slice_get-get_or formers at c.index-formers-at.result inside ∙ ap Some (sym c.replace-former.ensures.value))

pub loop-at-preserved : goal.loop-at-preserved
loop-at-preserved c =
    let was = c.loop-at.invariant in
    let formers = c.loop-at.formers in
    let at = c.loop-at.at in
    let put = c.replace-former.new.dest in
    let is_same : put ≡ Same = c.replace-former.ensures.after in
    let long = length-set formers at put in
    let size = was.long in
    let inside : at < length formers = omega arith in
    let twice = put-twice c.loop-at.nodes c.put_at-now.new.nodes at c.no_lists.result c.put_at-now.ensures.put c.put_at.new.nodes c.put_back.result c.put_at.ensures.put in
    let former : slice_get formers at ≡ Some c.replace-former.result = slice_get-get_or formers at c.index-formers-at.result inside ∙ ap Some (sym c.replace-former.ensures.value) in
    record {
      long = long ∙ was.long;
      count = subst (λ n. AreNodes n c.put_at.new.nodes) (sym long) (put-count c.loop-at.nodes c.put_at.new.nodes at c.put_back.result twice (length formers) was.count);
      fit = fits-put c.loop-at.nodes c.put_at.new.nodes at c.put_back.result twice formers (set formers at put) was.fit was.count inside (λ w apart. get-set_other formers at w put apart)
          (λ own e. let is : own ≡ Same = some_inj own put (sym e ∙ get-set_same formers at put inside) ∙ is_same in subst (λ (f : Former). FitsIn f c.put_back.result) (sym is) tt);
      same = λ w l. ap (λ x. slice_get (set formers at x) w) is_same ∙ same-more formers at inside was.same w l;
      back = λ before can. comes-put c.loop-at.nodes c.put_at.new.nodes at c.put_back.result twice before formers (set formers at put) (was.back before can) was.count inside long (λ w apart. get-set_other formers at w put apart)
          (λ lists own a e.
          let is : own ≡ Same = some_inj own put (sym e ∙ get-set_same formers at put inside) ∙ is_same in
          subst (λ (f : Former). lists_before f c.put_back.result ≡ lists) (sym is) (c.put_back.ensures ∙ (was.back before can).each at lists c.put_at-now.result c.replace-former.result a c.put_at-now.ensures.had former));
    }

pub returns : goal.returns
returns c before can =
    let was = c.loop-at.invariant in
    let long = was.long in
    all-back before c.loop-at.nodes c.loop-at.formers (was.back before can) was.count (λ w l. was.same w (omega arith))
