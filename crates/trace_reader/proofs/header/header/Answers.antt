use Rattle.std.proofs.Common.{refl}
use Rattle.std.proofs.lemmas.Result.{err_from_is_err_and}
use Rattle.trace_reader.specs.Headers.{first_line, late_lines}
use Rattle.trace_reader.proofs.HeaderLaw.{skew_line, msl_line, grain_line, minrto_line, extra_line, with_first}
use Rattle.trace_reader.proofs.HeaderLaw.{with_skew, with_msl, with_grain, with_minrto, with_extra, with_late}
use Rattle.trace_reader.proofs.HeaderReads.{is_header, value_then, value_not, value_last}
use Rattle.trace_reader.proofs.header.header.Goals as goal

pub returns-in_err-version-clause-header : goal.returns-in_err-version-clause-header
returns-in_err-version-clause-header g c =
    let p = err_from_is_err_and c.from_residual.result c.from_residual.ensures.1 in
    rw (p.1, p.2)
    (is_header _ _ _
    (value_not first_line with_first _ _ c.in_err-version.field-0.0 c.in_err-version.ensures.line))

pub returns-in_err-skew-clause-header : goal.returns-in_err-skew-clause-header
returns-in_err-skew-clause-header g c =
    let p = err_from_is_err_and c.from_residual-in_err-skew.result c.from_residual-in_err-skew.ensures.1 in
    rw (p.1, p.2)
    (is_header _ _ _
    (value_then first_line with_first _ _ _ c.in_ok-version.version _ c.in_ok-version.ensures.line
    (value_not skew_line (with_skew c.in_ok-version.version) _ _ c.in_err-skew.field-0.0 c.in_err-skew.ensures.value)))

pub returns-in_err-msl-clause-header : goal.returns-in_err-msl-clause-header
returns-in_err-msl-clause-header g c =
    let p = err_from_is_err_and c.from_residual-in_err-msl.result c.from_residual-in_err-msl.ensures.1 in
    rw (p.1, p.2)
    (is_header _ _ _
    (value_then first_line with_first _ _ _ c.in_ok-version.version _ c.in_ok-version.ensures.line
    (value_then skew_line (with_skew c.in_ok-version.version) _ _ _ c.in_ok-skew.skew _ c.in_ok-skew.ensures.value
    (value_not msl_line (with_msl c.in_ok-version.version c.in_ok-skew.skew) _ _ c.in_err-msl.field-0.0 c.in_err-msl.ensures.value))))

pub returns-in_err-grain-clause-header : goal.returns-in_err-grain-clause-header
returns-in_err-grain-clause-header g c =
    let p = err_from_is_err_and c.from_residual-in_err-grain.result c.from_residual-in_err-grain.ensures.1 in
    rw (p.1, p.2)
    (is_header _ _ _
    (value_then first_line with_first _ _ _ c.in_ok-version.version _ c.in_ok-version.ensures.line
    (value_then skew_line (with_skew c.in_ok-version.version) _ _ _ c.in_ok-skew.skew _ c.in_ok-skew.ensures.value
    (value_then msl_line (with_msl c.in_ok-version.version c.in_ok-skew.skew) _ _ _ c.in_ok-msl.msl _ c.in_ok-msl.ensures.value
    (value_not grain_line (with_grain c.in_ok-version.version c.in_ok-skew.skew c.in_ok-msl.msl) _ _ c.in_err-grain.field-0.0 c.in_err-grain.ensures.value)))))

pub returns-in_err-minrto-clause-header : goal.returns-in_err-minrto-clause-header
returns-in_err-minrto-clause-header g c =
    let p = err_from_is_err_and c.from_residual-in_err-minrto.result c.from_residual-in_err-minrto.ensures.1 in
    rw (p.1, p.2)
    (is_header _ _ _
    (value_then first_line with_first _ _ _ c.in_ok-version.version _ c.in_ok-version.ensures.line
    (value_then skew_line (with_skew c.in_ok-version.version) _ _ _ c.in_ok-skew.skew _ c.in_ok-skew.ensures.value
    (value_then msl_line (with_msl c.in_ok-version.version c.in_ok-skew.skew) _ _ _ c.in_ok-msl.msl _ c.in_ok-msl.ensures.value
    (value_then grain_line (with_grain c.in_ok-version.version c.in_ok-skew.skew c.in_ok-msl.msl) _ _ _ c.in_ok-grain.grain _ c.in_ok-grain.ensures.value
    (value_not minrto_line (with_minrto c.in_ok-version.version c.in_ok-skew.skew c.in_ok-msl.msl c.in_ok-grain.grain) _
    _ c.in_err-minrto.field-0.0 c.in_err-minrto.ensures.value))))))

pub returns-in_err-extra-clause-header : goal.returns-in_err-extra-clause-header
returns-in_err-extra-clause-header g c =
    let p = err_from_is_err_and c.from_residual-in_err-extra.result c.from_residual-in_err-extra.ensures.1 in
    rw (p.1, p.2)
    (is_header _ _ _
    (value_then first_line with_first _ _ _ c.in_ok-version.version _ c.in_ok-version.ensures.line
    (value_then skew_line (with_skew c.in_ok-version.version) _ _ _ c.in_ok-skew.skew _ c.in_ok-skew.ensures.value
    (value_then msl_line (with_msl c.in_ok-version.version c.in_ok-skew.skew) _ _ _ c.in_ok-msl.msl _ c.in_ok-msl.ensures.value
    (value_then grain_line (with_grain c.in_ok-version.version c.in_ok-skew.skew c.in_ok-msl.msl) _ _ _ c.in_ok-grain.grain _ c.in_ok-grain.ensures.value
    (value_then minrto_line (with_minrto c.in_ok-version.version c.in_ok-skew.skew c.in_ok-msl.msl c.in_ok-grain.grain)
    _ _ _ c.in_ok-minrto.minrto _ c.in_ok-minrto.ensures.value
    (value_not extra_line (with_extra c.in_ok-version.version c.in_ok-skew.skew c.in_ok-msl.msl c.in_ok-grain.grain
    c.in_ok-minrto.minrto) _ _ c.in_err-extra.field-0.0 c.in_err-extra.ensures.value)))))))

pub returns-in_err-late-clause-header : goal.returns-in_err-late-clause-header
returns-in_err-late-clause-header g c =
    let p = err_from_is_err_and c.from_residual-in_err-late.result c.from_residual-in_err-late.ensures.1 in
    rw (p.1, p.2)
    (is_header _ _ _
    (value_then first_line with_first _ _ _ c.in_ok-version.version _ c.in_ok-version.ensures.line
    (value_then skew_line (with_skew c.in_ok-version.version) _ _ _ c.in_ok-skew.skew _ c.in_ok-skew.ensures.value
    (value_then msl_line (with_msl c.in_ok-version.version c.in_ok-skew.skew) _ _ _ c.in_ok-msl.msl _ c.in_ok-msl.ensures.value
    (value_then grain_line (with_grain c.in_ok-version.version c.in_ok-skew.skew c.in_ok-msl.msl) _ _ _ c.in_ok-grain.grain _ c.in_ok-grain.ensures.value
    (value_then minrto_line (with_minrto c.in_ok-version.version c.in_ok-skew.skew c.in_ok-msl.msl c.in_ok-grain.grain)
    _ _ _ c.in_ok-minrto.minrto _ c.in_ok-minrto.ensures.value
    (value_then extra_line (with_extra c.in_ok-version.version c.in_ok-skew.skew c.in_ok-msl.msl c.in_ok-grain.grain
    c.in_ok-minrto.minrto) _ _ _ c.in_ok-extra.field-0 _ c.in_ok-extra.ensures.value
    (value_not (late_lines c.in_ok-version.version)
    (with_late c.in_ok-skew.skew c.in_ok-msl.msl c.in_ok-grain.grain c.in_ok-minrto.minrto
    c.in_ok-extra.field-0) _ _ c.in_err-late.field-0.0 c.in_err-late.ensures.value))))))))

pub returns-clause-header : goal.returns-clause-header
returns-clause-header g c =
    is_header _ _ _
    (value_then first_line with_first _ _ _ c.in_ok-version.version _ c.in_ok-version.ensures.line
    (value_then skew_line (with_skew c.in_ok-version.version) _ _ _ c.in_ok-skew.skew _ c.in_ok-skew.ensures.value
    (value_then msl_line (with_msl c.in_ok-version.version c.in_ok-skew.skew) _ _ _ c.in_ok-msl.msl _ c.in_ok-msl.ensures.value
    (value_then grain_line (with_grain c.in_ok-version.version c.in_ok-skew.skew c.in_ok-msl.msl) _ _ _ c.in_ok-grain.grain _ c.in_ok-grain.ensures.value
    (value_then minrto_line (with_minrto c.in_ok-version.version c.in_ok-skew.skew c.in_ok-msl.msl c.in_ok-grain.grain)
    _ _ _ c.in_ok-minrto.minrto _ c.in_ok-minrto.ensures.value
    (value_then extra_line (with_extra c.in_ok-version.version c.in_ok-skew.skew c.in_ok-msl.msl c.in_ok-grain.grain
    c.in_ok-minrto.minrto) _ _ _ c.in_ok-extra.field-0 _ c.in_ok-extra.ensures.value
    (value_last (late_lines c.in_ok-version.version)
    (with_late c.in_ok-skew.skew c.in_ok-msl.msl c.in_ok-grain.grain c.in_ok-minrto.minrto
    c.in_ok-extra.field-0) _ _ c.in_ok-late.late _ (λ rest. refl) c.in_ok-late.ensures.value)))))))
