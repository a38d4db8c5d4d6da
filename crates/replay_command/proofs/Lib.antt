mod ReplayTexts
mod WorldRuns
